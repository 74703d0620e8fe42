-- The meanings of a table's records: those from a number on, and after a store.
use Prim.Native.Nat.{ℕ, zero, suc}
use mathlib.Core.Path.{◌≡◌, refl, ap}
use mathlib.Core.List.{List, [], ◌∷◌, map}
use lib.ListN.{set, drop}

pub map_drop : {R A : Type 0} (read : R → A) (i : ℕ) (rows : List R) → drop i (map read rows) ≡ map read (drop i rows)
map_drop read zero rows = refl
map_drop read (suc i) [] = refl
map_drop read (suc i) (r ∷ rows) = map_drop read i rows

-- a store of a record is a store of its meaning
pub map_set : {R A : Type 0} (read : R → A) (rows : List R) (i : ℕ) (r : R) → map read (set rows i r) ≡ set (map read rows) i (read r)
map_set read [] i r = refl
map_set read (x ∷ rows) zero r = refl
map_set read (x ∷ rows) (suc i) r = ap (λ (z : List _). read x ∷ z) (map_set read rows i r)
