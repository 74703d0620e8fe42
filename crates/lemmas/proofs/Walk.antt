-- A list from its front: what is left of it at i, and what is so of each of its elements.
use Prim.Native.Nat.{ℕ, zero, suc, ◌+◌, ◌<◌}
use mathlib.Core.Path.{◌≡◌, refl}
use mathlib.Core.Bool.{Bool, true, false}
use mathlib.Core.List.{List, [], ◌∷◌, map}
use native.Mathlib.Omega.{arith}
use native.Mathlib.Numerals.{add-one}
use lib.ListN.{length, get_or, take, drop}
use lib.Seq.{drop-cons}
use Rattle.plain.specs.Lists.{any, all}
use Rattle.lemmas.proofs.Choice.{and_left, and_right, and_both}

-- what is left at i is the element there and what is left at i + 1
pub left_at : {A : Type 0} (xs : List A) (i : ℕ) (d : A) → i < length xs → drop i xs ≡ get_or xs i d ∷ drop (i + 1) xs
left_at xs i d h = rw add-one (drop-cons xs i d h)

-- `any` is settled by the first element that is so, `all` by the first that is not: `by` tells which.
abbrev pub settled_by : {A : Type 0} → Bool → (A → Bool) → List A → Bool
settled_by true p xs = any p xs
settled_by false p xs = all p xs

module _ {A : Type 0} (p : A → Bool) (d : A) where
  -- each of them is so: the one at i, and those before n
  pub all_at : (xs : List A) (i : ℕ) → i < length xs → all p xs ≡ true → p (get_or xs i d) ≡ true
  unfolding all
  all_at [] i h e = absurd (omega arith)
  all_at (x ∷ xs) zero h e = and_left (p x) (all p xs) e
  all_at (x ∷ xs) (suc i) h e = all_at xs i (omega arith) (and_right (p x) (all p xs) e)

pub all_take : {A : Type 0} (p : A → Bool) (n : ℕ) (xs : List A) → all p xs ≡ true → all p (take n xs) ≡ true
unfolding all
all_take p zero xs e = refl
all_take p (suc n) [] e = refl
all_take p (suc n) (x ∷ xs) e = and_both (p x) (all p (take n xs)) (and_left (p x) (all p xs) e) (all_take p n xs (and_right (p x) (all p xs) e))

pub all_map : {A B : Type 0} (p : B → Bool) (f : A → B) (xs : List A) → all p (map f xs) ≡ all (λ (x : A). p (f x)) xs
unfolding all
all_map p f [] = refl
all_map p f (x ∷ xs) = rw (all_map p f xs)
