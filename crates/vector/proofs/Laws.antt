-- A vector that is restored address by address.
use Prim.Native.Nat.{ℕ, suc, ◌+◌, ◌-◌, ◌/◌, ◌≤◌, ◌<◌}
use mathlib.Core.Path.{◌≡◌, refl, sym, ◌∙◌}
use mathlib.Core.List.{List, [], ◌∷◌, ◌++◌, map, append_assoc, append-nil}
use native.Mathlib.Omega.{arith}
use native.Mathlib.Numerals.{add-one}
use native.Mathlib.Nat.{add-div_left, div-eq_of_lt}
use lib.ListN.{length, take, set, length-append}
use lib.Seq.{take-suc-set, take_at, drop_at}
use Rattle.plain.specs.Address.{Address, restore}
use Rattle.plain.specs.Octets.{parts, restored}

-- what is restored below i, and the addresses that are to come of the octets that are left, is the whole vector
pub record Restoring (compr : ℕ) (dodagid part : List ℕ) (vector : List Address) (rest : List ℕ) (i : ℕ) : Type 0 where
  pub to_come : i + length rest / (16 - compr) ≡ length part / (16 - compr)
  pub whole : take i vector ++ map (restore compr dodagid) (parts (length rest / (16 - compr)) (16 - compr) rest) ≡ restored compr dodagid part

pub restoring_first : (compr : ℕ) (dodagid part : List ℕ) (vector : List Address) → Restoring compr dodagid part vector part 0
unfolding restored
restoring_first compr dodagid part vector = record { to_come = omega arith; whole = refl }

module _ {compr : ℕ} {dodagid part rest : List ℕ} {vector : List Address} {i : ℕ} (v : Restoring compr dodagid part vector rest i) (h : compr ≤ 15) where
  module _ (piece left : List ℕ) (e : rest ≡ piece ++ left) (w : length piece ≡ 16 - compr) where
    one_more : length rest / (16 - compr) ≡ suc (length left / (16 - compr))
    one_more =
        let m : length rest ≡ (16 - compr) + length left = rw (e, length-append piece left, w) in
        rw m (rw add-one at (add-div_left (length left) {k = 16 - compr} (omega arith)))

    pub room_here : i < length part / (16 - compr)
    room_here = omega (arith, v.to_come, one_more)

    pub restoring_more : {x : Address} → i < length vector → x ≡ restore compr dodagid piece
        → Restoring compr dodagid part (set vector i x) left (i + 1)
    unfolding parts
    restoring_more {x} l f =
        let t : take (i + 1) (set vector i x) ≡ take i vector ++ (x ∷ []) = rw add-one (take-suc-set vector i x l) in
        let q = rw (one_more, e, take_at piece left (16 - compr) w, drop_at piece left (16 - compr) w) at v.whole in
        record { to_come = omega (arith, v.to_come, one_more); whole = rw (t, append_assoc, f) q }

  pub restoring_last : length rest < 16 - compr → take (length part / (16 - compr)) vector ≡ restored compr dodagid part
  unfolding parts
  restoring_last s =
      let z : length rest / (16 - compr) ≡ 0 = div-eq_of_lt s in
      let k : i ≡ length part / (16 - compr) = omega (arith, v.to_come, z) in
      rw (← k) (sym (append-nil (take i vector)) ∙ (rw z at v.whole))
