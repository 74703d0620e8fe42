-- Writing at the front of a buffer, and at the front of the part that is left.
use Prim.Native.Nat.{ℕ, ◌+◌, ◌-◌, ◌≤◌}
use mathlib.Core.Path.{◌≡◌, refl, sym, ap, ◌∙◌}
use mathlib.Core.List.{List, [], ◌++◌, append_assoc, append-nil}
use native.Mathlib.Omega.{arith}
use lib.ListN.{length, take, drop, length-append, length-drop, drop_of_length-le}
use lib.Seq.{take_at, drop_at, drop-drop, take-length}
use borrow.Rule.Slice.PartMut.{put_mid}
use Rattle.lemmas.specs.Written.{over, Written}

-- all of d from n on, as a part that is lent has it, is the rest of d
pub rest_is : {A : Type 0} (n : ℕ) (d : List A) → take (length d - n) (drop n d) ≡ drop n d
rest_is n d = rw (← length-drop n d) (take-length (drop n d))

after_rest : {A : Type 0} (n : ℕ) (d : List A) → drop (length d - n) (drop n d) ≡ []
after_rest n d = drop_of_length-le (drop n d) {i = length d - n} (omega (arith, length-drop n d))

-- the part from n on has come back as ys
pub rest_back : {A : Type 0} (n : ℕ) (d ys : List A) → take n d ++ (ys ++ drop (length d - n) (drop n d)) ≡ take n d ++ ys
rest_back n d ys = rw (after_rest n d, append-nil)

-- ys written at the front of what is left after xs
pub over_over : {A : Type 0} (n : ℕ) (xs ys d : List A) → length xs ≡ n
    → take n (over xs d) ++ over ys (drop n (over xs d)) ≡ over (xs ++ ys) d
over_over n xs ys d e =
    rw (take_at xs (drop (length xs) d) n e, drop_at xs (drop (length xs) d) n e, drop-drop (length ys) (length xs) d, length-append xs ys)
    (sym (append_assoc xs ys (drop (length xs + length ys) d)))

-- the same, as it stands where the part was lent
pub over_part : {A : Type 0} (n : ℕ) (xs ys d w p : List A) → w ≡ over xs d → length xs ≡ n
    → p ≡ over ys (take (length w - n) (drop n w))
    → take n w ++ (p ++ drop (length w - n) (drop n w)) ≡ over (xs ++ ys) d
over_part n xs ys d w p e h q =
    rest_back n w p
    ∙ ap (λ t. take n w ++ t) (q ∙ ap (over ys) (rest_is n w))
    ∙ ap (λ t. take n t ++ over ys (drop n t)) e
    ∙ over_over n xs ys d h

pub length_over : {A : Type 0} (xs d : List A) → length xs ≤ length d → length (over xs d) ≡ length d
length_over xs d h = omega (arith, length-append xs (drop (length xs) d), length-drop (length xs) d)

-- two writers, the second on the part that the first left: w is what the first left, p what the second left of its part
pub written_then : (xs ys d w p : List ℕ) (n m : ℕ) → Written xs d w n → Written ys (take (length w - n) (drop n w)) p m
    → Written (xs ++ ys) d (put_mid n (length w - n) w p) (n + m)
written_then xs ys d w p n m a b = record {
  count = omega (arith, length-append xs ys, a.count, b.count);
  holds = over_part n xs ys d w p a.holds (sym a.count) b.holds;
}

-- nothing written
pub written_none : (d : List ℕ) → Written [] d d 0
written_none d = record { count = refl; holds = refl }

-- a writer keeps the buffer's length
pub length_written : (xs d w : List ℕ) (n : ℕ) → Written xs d w n → n ≤ length d → length w ≡ length d
length_written xs d w n a h = ap length a.holds ∙ length_over xs d (omega (arith, a.count))
