-- Ours stand in the array after the n that were there.
use Prim.Native.Nat.{ℕ, suc, ◌+◌, ◌<◌, ◌≤◌}
use mathlib.Core.Path.{◌≡◌, refl, ap, ◌∙◌}
use mathlib.Core.Bool.{Bool, true, false}
use mathlib.Core.List.{List, [], ◌∷◌, ◌++◌, append_assoc}
use native.Mathlib.Omega.{arith}
use native.Mathlib.Numerals.{add-one, add-two}
use lib.ListN.{length, take, set, length-set}
use lib.Seq.{take-suc-set}
use Rattle.plain.specs.Lists.{same}
use Rattle.plain.specs.Address.{Address}
use Rattle.plain.specs.Given.{Settings}
use Rattle.plain.specs.Request.{own_vector, grown}
use Rattle.grown.specs.Grown.{grown_count}
use Rattle.grown.proofs.Growth.{own_count, own_length}

module _ (x : Settings) (h : Bool) (n : ℕ) (f : h ≡ false) where
  -- where the grown vector has room, so have ours
  pub room_one : grown_count x h n ≤ 16 → n < 16
  unfolding grown_count
  room_one k = omega (arith, rw f at k, own_length x)

  pub room_two : same x.receiving x.sending ≡ false → grown_count x h n ≤ 16 → n + 1 < 16
  unfolding grown_count
  room_two e k = omega (arith, rw f at k, own_count x false e)

  -- how many there are tells whether ours are the same
  pub same_told : grown_count x h n ≡ n + 1 → same x.receiving x.sending ≡ true
  unfolding grown_count
  same_told e = go (same x.receiving x.sending) refl
    where
      go : (b : Bool) → same x.receiving x.sending ≡ b → same x.receiving x.sending ≡ true
      go true q = q
      go false q = absurd (omega (arith, rw f at e, own_count x false q))

  pub different_told : (grown_count x h n ≡ n + 1 → ⊥) → same x.receiving x.sending ≡ false
  unfolding grown_count
  different_told e = go (same x.receiving x.sending) refl
    where
      go : (b : Bool) → same x.receiving x.sending ≡ b → same x.receiving x.sending ≡ false
      go true q = absurd (e (rw f (omega (arith, own_count x true q))))
      go false q = q

  pub grow_one : (v : List Address) → same x.receiving x.sending ≡ true → n < length v
      → take (grown_count x h n) (set v n x.receiving) ≡ grown x h (take n v)
  unfolding grown_count own_vector
  grow_one v e k = rw (f, e, add-one) (take-suc-set v n x.receiving k)

  pub grow_two : (v : List Address) → same x.receiving x.sending ≡ false → n + 1 < length v
      → take (grown_count x h n) (set (set v n x.receiving) (n + 1) x.sending) ≡ grown x h (take n v)
  unfolding grown_count own_vector
  grow_two v e k =
      rw (f, e, add-two, add-one)
      (take-suc-set (set v n x.receiving) (suc n) x.sending (rw (length-set v n x.receiving) (omega arith))
      ∙ ap (λ (w : List Address). w ++ (x.sending ∷ [])) (take-suc-set v n x.receiving (omega arith))
      ∙ append_assoc (take n v) (x.receiving ∷ []) (x.sending ∷ []))
