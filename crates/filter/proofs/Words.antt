-- A word that has bits keeps them when others are set.
use Prim.Native.Nat.{ℕ, ◌+◌, ◌*◌, ◌/◌, ◌%◌, max}
use mathlib.Core.Path.{◌≡◌, refl, sym, ap, ap₂, ◌∙◌}
use native.Mathlib.Omega.{arith}
use lib.Arith.{bin_ind}
use lib.Bits.{bit_or, or_step, or_shr, or_comm, or_self, or_zero_l}

max_three : (a b c : ℕ) → max (max a b) c ≡ max a (max b c)
max_three a b c = omega arith

or_low : (a b : ℕ) → bit_or a b % 2 ≡ max (a % 2) (b % 2)
or_low a b = omega (arith, or_step a b, or_shr a b 1)

or_assoc : (a b c : ℕ) → bit_or (bit_or a b) c ≡ bit_or a (bit_or b c)
or_assoc a =
    bin_ind (λ (n : ℕ). (b c : ℕ) → bit_or (bit_or n b) c ≡ bit_or n (bit_or b c)) (λ b c. rw or_zero_l refl)
    (λ n ih b c. or_step (bit_or n b) c
    ∙ ap₂ (λ (x y : ℕ). x * 2 + y)
    (ap (λ (x : ℕ). bit_or x (c / 2)) (or_shr n b 1) ∙ ih (b / 2) (c / 2) ∙ ap (λ (x : ℕ). bit_or (n / 2) x) (sym (or_shr b c 1)))
    (ap (λ (x : ℕ). max x (c % 2)) (or_low n b) ∙ max_three (n % 2) (b % 2) (c % 2) ∙ ap (λ (x : ℕ). max (n % 2) x) (sym (or_low b c)))
    ∙ sym (or_step n (bit_or b c))) a

-- the bits that were set are there
pub or_has : (w m : ℕ) → bit_or (bit_or w m) m ≡ bit_or w m
or_has w m = or_assoc w m m ∙ ap (λ (x : ℕ). bit_or w x) (or_self m)

-- and those that were there stay
pub or_keeps : (w m k : ℕ) → bit_or w m ≡ w → bit_or (bit_or w k) m ≡ bit_or w k
or_keeps w m k e = or_assoc w k m ∙ ap (λ (x : ℕ). bit_or w x) (or_comm k m) ∙ sym (or_assoc w m k) ∙ ap (λ (x : ℕ). bit_or x k) e
