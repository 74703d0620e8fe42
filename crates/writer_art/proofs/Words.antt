-- What the octet of Prefix Length comes to.
use Prim.Native.Nat.{ℕ, ◌%◌}
use mathlib.Core.Path.{◌≡◌}
use mathlib.Core.List.{[], ◌∷◌}
use native.Mathlib.Omega.{arith}
use Rattle.plain.specs.Octets.{word, sum, art_bits}

pub art_word : (plen : ℕ) → word art_bits (0 ∷ plen ∷ []) ≡ plen % 128
unfolding word sum
art_word plen = omega arith
