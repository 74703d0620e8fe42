-- `any` and `any_two` place by place, and at a loop that goes through the list.
use Prim.Native.Nat.{ℕ, zero, suc, ◌+◌, ◌<◌}
use mathlib.Core.Path.{◌≡◌, refl, sym, ap, ◌∙◌}
use mathlib.Core.Bool.{Bool, true, false, ◌||◌, or-false}
use mathlib.Core.List.{List, [], ◌∷◌, ◌++◌}
use native.Mathlib.Omega.{arith}
use native.Mathlib.Numerals.{add-one}
use lib.ListN.{length, get_or, take, drop, take-append-drop}
use lib.Seq.{take-suc}
use Rattle.plain.specs.Lists.{any, any_two}
use Rattle.lemmas.proofs.Choice.{true_false, or_left, or_right, or_neither}

pub not_so : (b : Bool) → (b ≡ true → ⊥) → b ≡ false
not_so true h = absurd (h refl)
not_so false h = refl

pub so : (b : Bool) → (b ≡ false → ⊥) → b ≡ true
so true h = refl
so false h = absurd (h refl)

or_across : (a b c d : Bool) → (a || b) || (c || d) ≡ (a || c) || (b || d)
or_across true b c d = refl
or_across false true true d = refl
or_across false true false d = refl
or_across false false c d = refl

module _ {A : Type 0} (p : A → Bool) where
  any_append : (xs ys : List A) → any p (xs ++ ys) ≡ any p xs || any p ys
  unfolding any
  any_append [] ys = refl
  any_append (x ∷ xs) ys = go (p x) (any_append xs ys)
    where
      go : (b : Bool) → any p (xs ++ ys) ≡ any p xs || any p ys → b || any p (xs ++ ys) ≡ b || any p xs || any p ys
      go true r = refl
      go false r = r

  pub any_false : (xs : List A) (d : A) → ((k : ℕ) → k < length xs → p (get_or xs k d) ≡ false) → any p xs ≡ false
  unfolding any
  any_false [] d f = refl
  any_false (x ∷ xs) d f = or_neither (p x) (any p xs) (f 0 (omega arith)) (any_false xs d (λ k h. f (suc k) (omega arith)))

  pub any_not : (xs : List A) (d : A) → any p xs ≡ false → (k : ℕ) → k < length xs → p (get_or xs k d) ≡ false
  unfolding any
  any_not [] d e k h = absurd (omega arith)
  any_not (x ∷ xs) d e zero h = or_left (p x) (any p xs) e
  any_not (x ∷ xs) d e (suc k) h = any_not xs d (or_right (p x) (any p xs) e) k (omega arith)

-- none is so in the narrower sense, where none is in the wider
pub any_less : {A : Type 0} (p q : A → Bool) → ((x : A) → p x ≡ true → q x ≡ true) → (xs : List A) → any q xs ≡ false → any p xs ≡ false
unfolding any
any_less p q f [] e = refl
any_less p q f (x ∷ xs) e =
    or_neither (p x) (any p xs) (not_so (p x) (λ t. true_false (sym (f x t) ∙ or_left (q x) (any q xs) e)))
    (any_less p q f xs (or_right (q x) (any q xs) e))

module _ {A : Type 0} (p q : A → Bool) (f : (x : A) → p x ≡ q x) where
  pub any_same : (xs : List A) → any p xs ≡ any q xs
  unfolding any
  any_same [] = refl
  any_same (x ∷ xs) = rw (f x, any_same xs)

module _ {A : Type 0} (p : A → A → Bool) where
  two_snoc : (xs : List A) (y : A) → any_two p (xs ++ (y ∷ [])) ≡ any_two p xs || any (λ (x : A). p x y) xs
  unfolding any_two any
  two_snoc [] y = refl
  two_snoc (x ∷ xs) y =
      rw (any_append (p x) xs (y ∷ []), or-false (p x y), two_snoc xs y) (or_across (any (p x) xs) (p x y) (any_two p xs) (any (λ (x : A). p x y) xs))

  two_front : (xs ys : List A) → any_two p (xs ++ ys) ≡ false → any_two p xs ≡ false
  unfolding any_two
  two_front [] ys e = refl
  two_front (x ∷ xs) ys e =
      let f : any (p x) xs || any (p x) ys ≡ false = sym (any_append (p x) xs ys) ∙ or_left (any (p x) (xs ++ ys)) (any_two p (xs ++ ys)) e in
      or_neither (any (p x) xs) (any_two p xs) (or_left (any (p x) xs) (any (p x) ys) f)
      (two_front xs ys (or_right (any (p x) (xs ++ ys)) (any_two p (xs ++ ys)) e))

  -- at row j: no two of the first j are so

  pub two_start : (xs : List A) → any_two p (take 0 xs) ≡ false
  unfolding any_two
  two_start xs = refl

  -- .. and r is the row at j
  module _ (xs : List A) (j : ℕ) (r : A) (low : j < length xs) (at : r ≡ get_or xs j r) where
    to_row : take (suc j) xs ≡ take j xs ++ (r ∷ [])
    to_row = take-suc xs j r low ∙ ap (λ y. take j xs ++ (y ∷ [])) (sym at)

    pub two_more : any_two p (take j xs) ≡ false → any (λ (x : A). p x r) (take j xs) ≡ false → any_two p (take (j + 1) xs) ≡ false
    two_more e f =
        rw (add-one, to_row, two_snoc (take j xs) r) (or_neither (any_two p (take j xs)) (any (λ (x : A). p x r) (take j xs)) e f)

    pub two_hit : any (λ (x : A). p x r) (take j xs) ≡ true → any_two p xs ≡ true
    two_hit e = so (any_two p xs) none_so
      where
        none_so : any_two p xs ≡ false → ⊥
        none_so n =
            let f : any_two p (take (suc j) xs) ≡ false = two_front (take (suc j) xs) (drop (suc j) xs) (rw (take-append-drop (suc j) xs) n) in
            let g : any_two p (take j xs ++ (r ∷ [])) ≡ false = rw to_row at f in
            true_false (sym e ∙ or_right (any_two p (take j xs)) (any (λ (x : A). p x r) (take j xs)) (sym (two_snoc (take j xs) r) ∙ g))

module _ {A : Type 0} (p q : A → A → Bool) where
  pub two_same : ((x y : A) → p x y ≡ q x y) → (xs : List A) → any_two p xs ≡ any_two q xs
  unfolding any_two
  two_same f [] = refl
  two_same f (x ∷ xs) = rw (any_same (p x) (q x) (f x) xs, two_same f xs)

  any_either : (x : A) (ys : List A) → any (λ (y : A). p x y || q x y) ys ≡ any (p x) ys || any (q x) ys
  unfolding any
  any_either x [] = refl
  any_either x (y ∷ ys) = rw (any_either x ys) (or_across (p x y) (q x y) (any (p x) ys) (any (q x) ys))

  -- two are so in one way, or two in the other
  pub two_either : (xs : List A) → any_two p xs || any_two q xs ≡ any_two (λ (x y : A). p x y || q x y) xs
  unfolding any_two
  two_either [] = refl
  two_either (x ∷ xs) =
      rw (any_either x xs, ← two_either xs) (or_across (any (p x) xs) (any_two p xs) (any (q x) xs) (any_two q xs))

  -- what two are not so in the wider sense they are not in the narrower
  pub two_less : ((x y : A) → p x y ≡ true → q x y ≡ true) → (xs : List A) → any_two q xs ≡ false → any_two p xs ≡ false
  unfolding any_two
  two_less f [] e = refl
  two_less f (x ∷ xs) e =
      or_neither (any (p x) xs) (any_two p xs) (any_less (p x) (q x) (f x) xs (or_left (any (q x) xs) (any_two q xs) e))
      (two_less f xs (or_right (any (q x) xs) (any_two q xs) e))
