-- Words about lists that the rules use.
use Rattle.std.specs.Prelude.{ℕ, suc, Bool, true, false, cond, ◌&&◌, ◌||◌, List, [], ◌∷◌, ◌++◌, eqb}
use Rattle.std.proofs.Math.Option.{Option, some, none}

-- some element is so
unfoldable pub any : {A : Type 0} → (A → Bool) → List A → Bool
any p [] = false
any p (x ∷ xs) = p x || any p xs

-- each element is so
unfoldable pub all : {A : Type 0} → (A → Bool) → List A → Bool
all p [] = true
all p (x ∷ xs) = p x && all p xs

-- those elements that are so, in their order
unfoldable pub those : {A : Type 0} → (A → Bool) → List A → List A
those p [] = []
those p (x ∷ xs) = cond (p x) (x ∷ those p xs) (those p xs)

-- the first element that is so
unfoldable pub first_of : {A : Type 0} → (A → Bool) → List A → Option A
first_of p [] = none
first_of p (x ∷ xs) = cond (p x) (some x) (first_of p xs)

-- how many elements are so
unfoldable pub count : {A : Type 0} → (A → Bool) → List A → ℕ
count p [] = 0
count p (x ∷ xs) = cond (p x) (suc (count p xs)) (count p xs)

-- two elements, one before the other, are so
unfoldable pub any_two : {A : Type 0} → (A → A → Bool) → List A → Bool
any_two p [] = false
any_two p (x ∷ xs) = any (p x) xs || any_two p xs

-- the elements that are the same as none of `earlier` and as none kept before them
unfoldable pub once_after : {A : Type 0} → (A → A → Bool) → List A → List A → List A
once_after same earlier [] = []
once_after same earlier (x ∷ xs) =
    cond (any (same x) earlier) (once_after same earlier xs) (x ∷ once_after same (earlier ++ (x ∷ [])) xs)

-- each element once, at its first place
abbrev pub once : {A : Type 0} → (A → A → Bool) → List A → List A
once same xs = once_after same [] xs

-- the same numbers in the same order
unfoldable pub same : List ℕ → List ℕ → Bool
same [] [] = true
same [] (y ∷ ys) = false
same (x ∷ xs) [] = false
same (x ∷ xs) (y ∷ ys) = eqb x y && same xs ys

-- something is there
abbrev pub given : {A : Type 0} → Option A → Bool
given none = false
given (some x) = true
