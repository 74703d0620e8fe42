-- The octets that are sent of addresses.
use Prim.Native.Nat.{ℕ, suc, ◌-◌, ◌*◌, ◌<◌}
use mathlib.Core.Path.{◌≡◌}
use mathlib.Core.List.{List, [], ◌∷◌}
use native.Mathlib.Omega.{arith}
use lib.ListN.{length, get_or, take, drop, length-drop}
use lib.Seq.{take_all}
use Rattle.lemmas.specs.Each.{WholeVector}
use Rattle.lemmas.proofs.Rules.{elided_length}
use Rattle.plain.specs.Address.{Address}
use Rattle.plain.specs.Octets.{elided}

-- what a need is handed of a slice of addresses (`c.told-vector`)
abbrev pub Told : List Address → Type 0
Told v = (i : ℕ) → i < length v → length (get_or v i []) ≡ 16

pub told_whole : (v : List Address) → Told v → WholeVector v
told_whole [] t = tt
told_whole (a ∷ v) t = (t 0 (omega arith), told_whole v (λ i h. t (suc i) (omega arith)))

-- how many octets are sent of them
pub told_length : (compr : ℕ) (v : List Address) → Told v → length (elided compr v) ≡ length v * (16 - compr)
told_length compr v t = elided_length compr v (told_whole v t)

-- what is left of an address of k octets, as a part that is lent has it
pub elide_part : (k compr : ℕ) (a : Address) → length a ≡ k → take (k - compr) (drop compr a) ≡ drop compr a
elide_part k compr a e = take_all (k - compr) (drop compr a) (omega (arith, length-drop compr a))
