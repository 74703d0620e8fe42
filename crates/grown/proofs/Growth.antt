-- A vector with our addresses added: how long it is, and that it stands in an array.
use Prim.Native.Nat.{ℕ, ◌-◌, ◌*◌, ◌<◌, ◌≤◌}
use mathlib.Core.Path.{◌≡◌, refl}
use mathlib.Core.Bool.{Bool, true, false, cond}
use mathlib.Core.List.{List, [], ◌∷◌}
use native.Mathlib.Omega.{arith}
use lib.Dec.{ltb}
use lib.ListN.{length, length-append}
use borrow.Author.Tests.{lt-ltb, le-ltb}
use Rattle.plain.specs.Lists.{same}
use Rattle.plain.specs.Address.{Address}
use Rattle.plain.specs.Given.{Settings}
use Rattle.plain.specs.Request.{own_vector, grown, cannot_grow}
use Rattle.lemmas.specs.Each.{WholeVector}
use Rattle.lemmas.proofs.Each.{each_append}
use Rattle.lemmas.proofs.Rules.{elided_length}
use Rattle.lemmas.proofs.Choice.{cond_case}
use Rattle.grown.specs.Grown.{grown_count}

-- ---- How many addresses

pub own_count : (x : Settings) (b : Bool) → same x.receiving x.sending ≡ b → length (own_vector x) ≡ cond b 1 2
unfolding own_vector
own_count x true e = rw e refl
own_count x false e = rw e refl

pub own_length : (x : Settings) → (1 ≤ length (own_vector x)) × (length (own_vector x) ≤ 2)
unfolding own_vector
own_length x =
    cond_case (λ (v : List Address). (1 ≤ length v) × (length v ≤ 2)) (same x.receiving x.sending) (x.receiving ∷ [])
    (x.receiving ∷ x.sending ∷ []) (λ e. (omega arith, omega arith)) (λ e. (omega arith, omega arith))

pub grown_length : (x : Settings) (h : Bool) (v : List Address) → length (grown x h v) ≡ grown_count x h (length v)
unfolding grown_count
grown_length x true v = refl
grown_length x false v = length-append v (own_vector x)

-- ---- whole addresses

module _ (x : Settings) (p : length x.receiving ≡ 16) (q : length x.sending ≡ 16) where
  whole_own : WholeVector (own_vector x)
  unfolding own_vector
  whole_own =
      cond_case WholeVector (same x.receiving x.sending) (x.receiving ∷ []) (x.receiving ∷ x.sending ∷ []) (λ e. (p, tt))
      (λ e. (p, (q, tt)))

  pub whole_grown : (h : Bool) (v : List Address) → WholeVector v → WholeVector (grown x h v)
  whole_grown true v w = w
  whole_grown false v w = each_append (λ (a : Address). length a ≡ 16) v (own_vector x) w whole_own

  -- ---- Answer 16 by numbers

  module _ (compr n : ℕ) (v : List Address) (e : length v ≡ n) (w : WholeVector v) where
    count_is : length (grown x false v) ≡ grown_count x false n
    count_is = rw (← e) (grown_length x false v)

    pub past_addresses : 16 < grown_count x false n → cannot_grow compr (grown x false v) ≡ true
    unfolding cannot_grow
    past_addresses h = rw (count_is, lt-ltb _ _ h)

    pub past_octets : grown_count x false n ≤ 16
        → cannot_grow compr (grown x false v) ≡ ltb 252 (grown_count x false n * (16 - compr))
    unfolding cannot_grow
    past_octets h = rw (elided_length compr (grown x false v) (whole_grown false v w), count_is, le-ltb _ _ h)
