-- A position of a message, and the options that are read from there on.
use Rattle.std.specs.Prelude.{ℕ, ◌+◌, ◌-◌, ◌≤◌, ◌<◌, ◌≡◌, List, [], length, take, drop}
use Rattle.std.proofs.Math.Option.{Option, some, none}
use Rattle.plain.specs.Octets.{Opt, followed_by, next_option}
use Rattle.option.specs.declared.Next.{Next}
use Rattle.option.specs.declared.Next.TheVariants.{Pad, Body, End, Cut}

-- "each other option is type, length, body"
abbrev pub option_of : ℕ → List ℕ → Opt
option_of kind body = record { kind = kind; body = body }

-- a part of a message, from its first octet up to its end
abbrev pub part_of : List ℕ → ℕ → ℕ → List ℕ
part_of msg start end = take (end - start) (drop start msg)

-- the options from a position on, where `rest` reads on after what stands there
abbrev pub onwards : (List ℕ → Option (List Opt)) → List ℕ → ℕ → Next → Option (List Opt)
onwards rest msg at Pad = rest (drop (at + 1) msg)
onwards rest msg at (Body kind start end) = followed_by (option_of kind (part_of msg start end)) (rest (drop end msg))
onwards rest msg at End = some []
onwards rest msg at Cut = none

-- a body lies within the message, after its type and length, of which the length is one octet
abbrev pub Placed : List ℕ → ℕ → Next → Type 0
Placed msg at Pad = at < length msg
Placed msg at (Body kind start end) = (at + 2 ≤ start) × (start ≤ end) × (end ≤ start + 255) × (end ≤ length msg)
Placed msg at End = 0 ≤ at
Placed msg at Cut = 0 ≤ at

-- what stands at a position is what the options are read by
pub record Follows (msg : List ℕ) (at : ℕ) (r : Next) : Type 0 where
  pub reads : (rest : List ℕ → Option (List Opt)) → next_option rest (drop at msg) ≡ onwards rest msg at r
  pub placed : Placed msg at r
