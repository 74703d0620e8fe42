-- The first bits of octets, of any number.
use Prim.Native.Nat.{ℕ, zero, suc, ◌+◌, ◌-◌, ◌*◌, ◌^◌, ◌≤◌, ◌<◌}
use mathlib.Core.Path.{◌≡◌, refl, ap, subst, ◌∙◌}
use mathlib.Core.Bool.{Bool, true, false}
use mathlib.Core.List.{List, [], ◌∷◌}
use native.Mathlib.Omega.{arith}
use native.Mathlib.Nat.{div-add-mod'}
use denote.Param.Members.{Mut}
use lib.Dec.{ltb}
use lib.ListN.{length, get_or}
use borrow.Author.Tests.{ltb-true, ltb-false}
use Rattle.std.specs.Array.{IsFromFnResult, IsFromFnResultFrom}
use Rattle.std.specs.Fn.{Called}
use Rattle.plain.specs.Address.{keep_bits, first_bits}

-- ---- An array that is made octet by octet

-- where the closure answers h and stays as it is, h is what the array holds
module _ {F : Type 0} (g : Mut F (ℕ × Unit {0}) ℕ) (f : F) (h : ℕ → ℕ)
    (step : (i y : ℕ) (q : F) → Called g f (i, tt) y q → (q ≡ f) × (y ≡ h i)) where
  made_from : (ys : List ℕ) (n i : ℕ) → IsFromFnResultFrom g f ys i n → (k : ℕ) → i ≤ k → k < i + n → get_or ys k 0 ≡ h k
  made_from ys zero i r k p l = absurd (omega arith)
  made_from ys (suc n) i r k p l =
      go (ltb i k) refl
      (λ m. made_from ys n (i + 1) (subst (λ (q : F). IsFromFnResultFrom g q ys (i + 1) n) (step i r.1 r.0 r.3).0 r.4) k (omega arith) (omega arith))
    where
      go : (b : Bool) → ltb i k ≡ b → (i < k → get_or ys k 0 ≡ h k) → get_or ys k 0 ≡ h k
      go true e rest = rest (ltb-true i k e)
      go false e rest = let m : i ≡ k = omega (arith, ltb-false i k e) in rw (← m) (r.2.1 0 ∙ (step i r.1 r.0 r.3).1)

first_each : (k : ℕ) (a ys : List ℕ) → length ys ≡ length a
    → ((i : ℕ) → i < length a → get_or ys i 0 ≡ keep_bits (k - 8 * i) (get_or a i 0)) → ys ≡ first_bits k a
unfolding first_bits
first_each k [] [] e h = refl
first_each k [] (y ∷ ys) e h = absurd (omega arith)
first_each k (x ∷ xs) [] e h = absurd (omega arith)
first_each k (x ∷ xs) (y ∷ ys) e h =
    let z : k - 8 * 0 ≡ k = omega arith in
    let c : y ≡ keep_bits k x = rw z at (h 0 (omega arith)) in
    let d = first_each (k - 8) xs ys (omega arith) (λ i l. let w : k - 8 * suc i ≡ k - 8 - 8 * i = omega arith in rw w at (h (suc i) (omega arith))) in
    rw (c, d)

pub first_made : {F : Type 0} (g : Mut F (ℕ × Unit {0}) ℕ) (f : F) (k : ℕ) (a ys : List ℕ) → length a ≡ 16 → IsFromFnResult g f ys 16
    → ((i y : ℕ) (q : F) → Called g f (i, tt) y q → (q ≡ f) × (y ≡ keep_bits (k - 8 * i) (get_or a i 0))) → ys ≡ first_bits k a
first_made g f k a ys l r step =
    first_each k a ys (omega (arith, r.long))
    (λ i m. made_from g f (λ i. keep_bits (k - 8 * i) (get_or a i 0)) step ys 16 0 r.each i (omega arith) (omega arith))

-- ---- The bits of an octet

pub keep_le : (k x : ℕ) → keep_bits k x ≤ x
unfolding keep_bits
keep_le k x = omega (arith, div-add-mod' x (2 ^ (8 - k)))

pub keep_all : (k x : ℕ) → 8 ≤ k → keep_bits k x ≡ x
unfolding keep_bits
keep_all k x h = let e : 8 - k ≡ 0 = omega arith in rw e (omega arith)

-- all the bits of an address
pub first_all : (k : ℕ) (a : List ℕ) → 8 * length a ≤ k → first_bits k a ≡ a
unfolding first_bits
first_all k [] h = refl
first_all k (x ∷ xs) h =
    rw (keep_all k x (omega arith)) (ap (λ ys. x ∷ ys) (first_all (k - 8) xs (omega arith)))
