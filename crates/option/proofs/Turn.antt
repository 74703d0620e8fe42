-- What stands at a position of a message, and the options from there on.
use Prim.Native.Nat.{ℕ, zero, suc, ◌+◌, ◌-◌, ◌≤◌, ◌<◌}
use mathlib.Core.Path.{◌≡◌, ◌∙◌}
use mathlib.Core.List.{List, []}
use mathlib.Core.Option.{some, none}
use native.Mathlib.Omega.{arith}
use lib.ListN.{length, drop}
use Rattle.plain.specs.Octets.{options_in, next_option, followed_by}
use Rattle.option.specs.Follows.{option_of, part_of, onwards, Follows}
use Rattle.option.specs.declared.Next.{Next}
use Rattle.option.specs.declared.Next.TheVariants.{Pad, Body, End, Cut}

options_step : (n : ℕ) (xs : List ℕ) → 0 < n → options_in n xs ≡ next_option (options_in (n - 1)) xs
unfolding options_in
options_step zero xs h = absurd (omega arith)
options_step (suc n) xs h = let e : suc n - 1 ≡ n = omega arith in rw e

-- One turn of a loop over the options: what holds where it begins, that there may be one more, and what stands there.
pub record Turn (I : Type 0) (msg : List ℕ) (at left : ℕ) (n : Next) : Type 0 where
  pub inv : I
  pub more : 0 < left
  pub stands : Follows msg at n

module _ {I : Type 0} {msg : List ℕ} {at left : ℕ} {n : Next} (t : Turn I msg at left n) where
  pub pad_placed : n ≡ Pad → at < length msg
  pad_placed e = rw e at t.stands.placed

  pub body_placed : {kind start end : ℕ} → n ≡ Body kind start end → (start ≤ end) × (end ≤ start + 255) × (end ≤ length msg)
  body_placed e = let p = rw e at t.stands.placed in (p.1, p.2, p.3)

  next : options_in left (drop at msg) ≡ onwards (options_in (left - 1)) msg at n
  next = options_step left (drop at msg) t.more ∙ t.stands.reads (options_in (left - 1))

  pub end_next : n ≡ End → options_in left (drop at msg) ≡ some []
  end_next e = next ∙ rw e

  pub cut_next : n ≡ Cut → options_in left (drop at msg) ≡ none
  cut_next e = next ∙ rw e

  pub pad_next : n ≡ Pad → options_in left (drop at msg) ≡ options_in (left - 1) (drop (at + 1) msg)
  pad_next e = next ∙ rw e

  pub body_next : {kind start end : ℕ} → n ≡ Body kind start end
      → options_in left (drop at msg) ≡ followed_by (option_of kind (part_of msg start end)) (options_in (left - 1) (drop end msg))
  body_next e = next ∙ rw e
