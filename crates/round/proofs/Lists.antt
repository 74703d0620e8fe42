-- What lists come to whose elements are all alike in some way.
use Prim.Native.Nat.{ℕ}
use mathlib.Core.Path.{◌≡◌, refl}
use mathlib.Core.Bool.{Bool, true, false, cond}
use mathlib.Core.List.{List, [], ◌∷◌, ◌++◌, map, flatten}
use lib.ListN.{length}
use lib.Seq.{take_at, drop_at}
use Rattle.plain.specs.Lists.{those}
use Rattle.plain.specs.Octets.{parts}
use Rattle.lemmas.specs.Each.{Each}

pub map_same : {A : Type 0} (f : A → A) (xs : List A) → Each (λ x. f x ≡ x) xs → map f xs ≡ xs
map_same f [] h = refl
map_same f (x ∷ xs) h = rw (h.0, map_same f xs h.1)

-- where a test has one value at every f x, it keeps all of them or none
pub those_map : {A B : Type 0} (p : B → Bool) (f : A → B) (b : Bool) → ((x : A) → p (f x) ≡ b) → (xs : List A)
    → those p (map f xs) ≡ cond b (map f xs) []
unfolding those
those_map p f true h [] = refl
those_map p f false h [] = refl
those_map p f true h (x ∷ xs) = rw (h x, those_map p f true h xs)
those_map p f false h (x ∷ xs) = rw (h x, those_map p f false h xs)

pub those_append : {A : Type 0} (p : A → Bool) (xs ys : List A) → those p (xs ++ ys) ≡ those p xs ++ those p ys
unfolding those
those_append p [] ys = refl
those_append p (x ∷ xs) ys = rw (those_append p xs ys) (go (p x))
  where
    go : (b : Bool) → cond b (x ∷ (those p xs ++ those p ys)) (those p xs ++ those p ys) ≡ cond b (x ∷ those p xs) (those p xs) ++ those p ys
    go true = refl
    go false = refl

-- lists of one length, put together and taken apart again
pub parts_back : (k : ℕ) (xss : List (List ℕ)) → Each (λ xs. length xs ≡ k) xss → parts (length xss) k (flatten xss) ≡ xss
unfolding flatten parts
parts_back k [] h = refl
parts_back k (xs ∷ xss) h = rw (take_at xs (flatten xss) k h.0, drop_at xs (flatten xss) k h.0, parts_back k xss h.1)
