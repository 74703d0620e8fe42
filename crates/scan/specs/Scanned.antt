-- A pass over the options of a message.
use Rattle.std.specs.Prelude.{ℕ, ◌≡◌, List, ◌∷◌, Option, is_none, IfSome}
use Rattle.plain.specs.Octets.{Opt, any_bad, options_of}
use Rattle.plain.specs.Octets.{configuration_type, rreq_type, rrep_type, art_type}
use Rattle.option.specs.Follows.{option_of, part_of}
use Rattle.scan.specs.declared.Found.{Found}
use Rattle.scan.specs.declared.Scan.{Scan}
use Rattle.scan.specs.Seen.{Right, Seen, Told}

-- nothing found yet
abbrev pub none_found : Found
none_found = record { count = 0; start = 0; end = 0 }

abbrev pub fresh_scan : Scan
fresh_scan = record {
  configuration = none_found;
  rreq = none_found;
  rrep = none_found;
  art = none_found;
}

-- What the pass has found, with the options of `rest` that are to come, is what is found of `all`.
pub record Ahead (msg : List ℕ) (all rest : List Opt) (s : Scan) : Type 0 where
  pub configuration : Seen configuration_type msg all rest s.configuration
  pub rreq : Seen rreq_type msg all rest s.rreq
  pub rrep : Seen rrep_type msg all rest s.rrep
  pub art : Seen art_type msg all rest s.art

-- the next option is taken in
abbrev pub OptionTaken : ℕ → ℕ → ℕ → Scan → Scan → Type 0
OptionTaken kind start end s r =
    (msg : List ℕ) (all rest : List Opt) → Right msg kind start end
    → Ahead msg all (option_of kind (part_of msg start end) ∷ rest) s → Ahead msg all rest r

-- What a pass finds in a message whose options are not bad.
pub record Outlined (msg : List ℕ) (s : Scan) : Type 0 where
  pub configuration : Told configuration_type msg s.configuration
  pub rreq : Told rreq_type msg s.rreq
  pub rrep : Told rrep_type msg s.rrep
  pub art : Told art_type msg s.art

-- none, where an option is past the end or has a wrong body
pub record Scanned (msg : List ℕ) (r : Option Scan) : Type 0 where
  pub bad : is_none r ≡ any_bad (options_of msg)
  pub told : IfSome r (Outlined msg)
