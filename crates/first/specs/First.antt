-- The number of the first element that is so.
use Rattle.std.specs.Prelude.{ℕ, suc, ◌+◌, Bool, cond, List, [], ◌∷◌, drop, length, ltb, Option, Some, None}

-- the number of the first element that is so, or the length where none is
unfoldable pub first : {A : Type 0} → (A → Bool) → List A → ℕ
first p [] = 0
first p (x ∷ xs) = cond (p x) 0 (suc (first p xs))

-- the same from an element on: past the end, that element's own number
abbrev pub first_from : {A : Type 0} → (A → Bool) → ℕ → List A → ℕ
first_from p i xs = i + first p (drop i xs)

-- the number, where it is below the length
abbrev pub below : {A : Type 0} → List A → ℕ → Option ℕ
below xs k = cond (ltb k (length xs)) (Some k) None

-- the number of the first element that is so, or none where none is
abbrev pub found_at : {A : Type 0} → (A → Bool) → List A → Option ℕ
found_at p xs = below xs (first p xs)

-- the same from an element on
abbrev pub found_from : {A : Type 0} → (A → Bool) → ℕ → List A → Option ℕ
found_from p i xs = below xs (first_from p i xs)
