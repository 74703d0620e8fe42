-- How long addresses are that stand in an array.
use Prim.Native.Nat.{ℕ}
use mathlib.Core.Path.{◌≡◌}
use mathlib.Core.List.{List, [], ◌∷◌}
use lib.ListN.{length}
use mir.Syntax.{Width}
use mir.Val.{Val}
use denote.Shadow.{shadow}
use denote.Array.{Array, each}
use denote.Plain.{UInt}
use denote.Laws.{Is}
use Rattle.lemmas.specs.Each.{Each}

rows_long : (w : Width) (k : ℕ) (xs : List (List ℕ)) (us : List Val) → shadow (each (List ℕ) (Array (UInt w) k).own_val xs us)
    → Each (λ (x : List ℕ). length x ≡ k) xs
rows_long w k [] us g = tt
rows_long w k (x ∷ xs) [] g = absurd g
rows_long w k (x ∷ xs) (u ∷ us) g = (g.0.1.0.1, rows_long w k xs us g.1)

-- each array in an array of arrays has its length: what a need is handed of such a parameter (`c.good`)
pub arrays_long : (w : Width) (k n : ℕ) (xs : List (List ℕ)) (vs : List Val) → Is (Array (Array (UInt w) k) n) xs vs
    → Each (λ (x : List ℕ). length x ≡ k) xs
arrays_long w k n xs vs g = rows_long w k xs g.0 g.1.1
