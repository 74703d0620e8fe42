-- What is sent, by the way its vector comes about.
use Prim.Native.Nat.{ℕ, ◌≤◌}
use mathlib.Core.Path.{◌≡◌, refl, sym, ap, ◌∙◌}
use mathlib.Core.Bool.{Bool, true, false}
use mathlib.Core.List.{List, reverse}
use native.Mathlib.Omega.{arith}
use lib.ListN.{length, take}
use lib.Seq.{length-take-le}
use Rattle.plain.specs.Address.{Address}
use Rattle.plain.specs.Given.{Settings}
use Rattle.plain.specs.Request.{grown}
use Rattle.grown.specs.Grown.{grown_count}
use Rattle.grown.proofs.Growth.{grown_length}
use Rattle.writer_option.specs.Sendable.{Sendable}
use Rattle.message.specs.declared.Parsed.{Parsed}
use Rattle.decision.specs.Decision.{post_vector, post_message, post_path, Writable}
use Rattle.post.specs.With.{message_with}

module _ (x : Settings) (p : Parsed) (has_grown : Bool) (vector : List Address) (fits : Writable x p has_grown vector) (long : length vector ≡ 16) where
  taken_length : length (take p.n vector) ≡ p.n
  taken_length = length-take-le p.n vector (omega (arith, fits.received))

  module _ (g : has_grown ≡ true) (n : ℕ) (e : n ≡ grown_count x false p.n) where
    grown_size : length (post_vector x p has_grown vector) ≡ n
    unfolding post_vector
    grown_size = rw g (grown_length x false (take p.n vector) ∙ ap (grown_count x false) taken_length ∙ sym e)

    pub grown_fits : (n ≡ grown_count x false p.n) × (n ≤ 16)
    grown_fits = (e, omega (arith, grown_size, fits.sendable.addresses))

    pub grown_is : (v : List Address) → take n v ≡ grown x false (take p.n vector) → post_message x p has_grown vector ≡ message_with p (take n v)
    unfolding post_message post_vector
    grown_is v f = rw (g, f) refl

    pub grown_sendable : (v : List Address) → take n v ≡ grown x false (take p.n vector) → Sendable p.discovery (length (take n v))
    unfolding post_vector
    grown_sendable v f = rw f (rw g at fits.sendable)

  module _ (g : has_grown ≡ false) where
    pub plain_is : post_message x p has_grown vector ≡ message_with p (take p.n vector)
    unfolding post_message post_vector
    plain_is = rw g refl

    pub plain_sendable : Sendable p.discovery (length (take p.n vector))
    unfolding post_vector
    plain_sendable = rw g at fits.sendable

-- OrigNode's path, turned round as `reversed` does it and as it came
module _ (n : ℕ) (turned : Bool) (vector : List Address) where
  pub turned_is : turned ≡ true → n ≤ length vector → (r : List Address)
      → take (length (take n vector)) r ≡ reverse (take n vector) → post_path n turned vector ≡ take n r
  unfolding post_path
  turned_is g h r f = rw g (sym (rw (length-take-le n vector h) at f))

  pub straight_is : turned ≡ false → post_path n turned vector ≡ take n vector
  unfolding post_path
  straight_is g = rw g refl
