-- Two addresses, octet by octet.
use Prim.Native.Nat.{ℕ}
use mathlib.Core.Path.{◌≡◌, refl, ap}
use mathlib.Core.Bool.{◌&&◌}
use mathlib.Core.List.{List, [], ◌∷◌}
use lib.Dec.{eqb}
use lib.ListN.{length}
use native.Mathlib.Omega.{arith}
use Rattle.std.specs.List.{zip}
use Rattle.plain.specs.Lists.{all, same}

-- side by side, where they have as many octets
pub zip_same : (a b : List ℕ) → length a ≡ length b → all (λ (p : ℕ × ℕ). eqb p.0 p.1) (zip a b) ≡ same a b
unfolding all same
zip_same [] [] h = refl
zip_same (x ∷ a) (y ∷ b) h = ap (λ t. eqb x y && t) (zip_same a b (omega arith))
zip_same [] (y ∷ b) h = absurd (omega arith)
zip_same (x ∷ a) [] h = absurd (omega arith)
