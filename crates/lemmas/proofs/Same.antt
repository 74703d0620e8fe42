-- Addresses that compare as the same are equal.
use Prim.Native.Nat.{ℕ}
use mathlib.Core.Path.{◌≡◌, refl, sym, ap}
use mathlib.Core.Bool.{Bool, true, false}
use mathlib.Core.List.{List, [], ◌∷◌}
use lib.Dec.{eqb}
use lib.ListN.{get_or}
use borrow.Author.Tests.{eqb-true}
use Rattle.plain.specs.Lists.{same}
use Rattle.lemmas.proofs.Choice.{and_left, and_right, true_false}

-- what compares as the same is equal
pub same_equal : (a b : List ℕ) → same a b ≡ true → a ≡ b
unfolding same
same_equal [] [] e = refl
same_equal [] (y ∷ b) e = true_false (sym e)
same_equal (x ∷ a) [] e = true_false (sym e)
same_equal (x ∷ a) (y ∷ b) e =
    let h : x ≡ y = eqb-true x y (and_left (eqb x y) (same a b) e) in
    let t : a ≡ b = same_equal a b (and_right (eqb x y) (same a b) e) in
    rw (h, t)

-- one octet that differs makes two addresses differ
pub differ : (a b : List ℕ) (k : ℕ) → (get_or a k 0 ≡ get_or b k 0 → ⊥) → same a b ≡ false
differ a b k h = go (same a b) refl
  where
    go : (x : Bool) → same a b ≡ x → x ≡ false
    go true e = absurd (h (ap (λ (z : List ℕ). get_or z k 0) (same_equal a b e)))
    go false e = refl
