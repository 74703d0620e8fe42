-- The options of one type, found one after the other.
use Rattle.std.specs.Prelude.{ℕ, ◌+◌, ◌≤◌, ◌<◌, min, ◌≡◌, false, cond, List, ◌∷◌, eqb, length}
use Rattle.std.proofs.Math.Option.{some}
use Rattle.plain.specs.Octets.{Opt, of_type, first_body, bad_option, options_of}
use Rattle.option.specs.Follows.{option_of, part_of}
use Rattle.scan.specs.declared.Found.{Found}

-- a body that lies within the message and is right for its type; its length is one octet
pub record Right (msg : List ℕ) (kind start end : ℕ) : Type 0 where
  pub order : start ≤ end
  pub short : end ≤ start + 255
  pub within : end ≤ length msg
  pub good : bad_option (option_of kind (part_of msg start end)) ≡ false

-- What is found of a type, with those of `rest` that are to come, is what is found of `all`.
pub record Seen (wanted : ℕ) (msg : List ℕ) (all rest : List Opt) (f : Found) : Type 0 where
  pub few : f.count ≤ 2
  pub count : min 2 (length (of_type wanted (some all))) ≡ min 2 (f.count + length (of_type wanted (some rest)))
  pub body : first_body (of_type wanted (some all))
      ≡ cond (eqb f.count 0) (first_body (of_type wanted (some rest))) (part_of msg f.start f.end)
  pub right : 0 < f.count → Right msg wanted f.start f.end

-- the next option is noted
abbrev pub Noted : ℕ → ℕ → ℕ → ℕ → Found → Found → Type 0
Noted wanted kind start end f r =
    (msg : List ℕ) (all rest : List Opt) → Right msg kind start end
    → Seen wanted msg all (option_of kind (part_of msg start end) ∷ rest) f → Seen wanted msg all rest r

-- What is found of a type in a message.
pub record Told (wanted : ℕ) (msg : List ℕ) (f : Found) : Type 0 where
  pub count : min 2 (length (of_type wanted (options_of msg))) ≡ f.count
  pub body : 0 < f.count → first_body (of_type wanted (options_of msg)) ≡ part_of msg f.start f.end
  pub right : 0 < f.count → Right msg wanted f.start f.end
