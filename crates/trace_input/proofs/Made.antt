-- What `array::from_fn` makes with a closure that keeps its state and gives at each number what a function gives.
use Prim.Native.Nat.{ℕ, zero, suc, ◌+◌, ◌<◌, ◌≤◌}
use mathlib.Core.Path.{◌≡◌, ◌∙◌, subst}
use mathlib.Core.List.{List, map}
use native.Mathlib.Omega.{arith}
use lib.ListN.{get_or}
use denote.Param.Members.{Mut}
use Rattle.std.specs.Array.{IsFromFnResultFrom, IsFromFnResult}
use Rattle.std.specs.Fn.{Called}
use Rattle.std.specs.List.{range_with_len}
use Rattle.std.proofs.lemmas.List.FromFn.{fill_by_all}

module _ {F B : Type 0} (g : Mut F (ℕ × Unit {0}) B) (f : F) (h : ℕ → B) (n : ℕ)
    (call : (k : ℕ) (y : B) (q : F) → k < n → Called g f (k, tt) y q → (q ≡ f) × (y ≡ h k)) where
  at_each : (ys : List B) (d : B) (i m : ℕ) → i + m ≤ n → IsFromFnResultFrom g f ys i m → (j k : ℕ) → i + j ≡ k → j < m → get_or ys k d ≡ h k
  at_each ys d i zero l each j k e u = absurd (omega arith)
  at_each ys d i (suc m) l each zero k e u =
      let s : i ≡ k = omega (arith, e) in
      subst (λ p. get_or ys p d ≡ h p) s (each.2.1 d ∙ (call i each.1 each.0 (omega arith) each.3).1)
  at_each ys d i (suc m) l each (suc j) k e u =
      at_each ys d (i + 1) m (omega arith)
      (subst (λ p. IsFromFnResultFrom g p ys (i + 1) m) (call i each.1 each.0 (omega arith) each.3).0 each.4) j k (omega (arith, e)) (omega arith)

  pub made : (ys : List B) (d : B) → IsFromFnResult g f ys n → ys ≡ map h (range_with_len 0 n)
  made ys d r = fill_by_all h ys n d r.long (λ k u. at_each ys d 0 n (omega arith) r.each k k (omega arith) u)
