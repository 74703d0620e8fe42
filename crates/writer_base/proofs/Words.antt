-- What the octet of a word's fields comes to.
use Prim.Native.Nat.{ℕ, ◌+◌, ◌*◌, ◌%◌, ◌≤◌}
use mathlib.Core.Path.{◌≡◌}
use mathlib.Core.List.{[], ◌∷◌}
use native.Mathlib.Omega.{arith}
use Rattle.plain.specs.Octets.{word, sum, base_bits}

pub base_word : (g prf : ℕ) → g ≤ 1 → word base_bits (g ∷ 0 ∷ 4 ∷ prf ∷ []) ≡ g * 128 + 32 + prf % 8
unfolding word sum
base_word g prf h = omega arith
