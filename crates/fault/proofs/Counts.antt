-- What the counts of options tell: answers 3 and 4.
use Prim.Native.Nat.{ℕ, ◌/◌, ◌%◌, ◌≤◌, ◌<◌, min}
use mathlib.Core.Path.{◌≡◌, refl, sym, ◌∙◌}
use mathlib.Core.Bool.{Bool, true, false, not, ◌&&◌, ◌||◌}
use mathlib.Core.List.{List}
use native.Mathlib.Omega.{arith}
use lib.Dec.{eqb, ltb}
use lib.ListN.{length}
use borrow.Author.Tests.{eq-eqb, ne_eqb, lt-ltb, le-ltb, eqb-true, eqb-false, ltb-true, ltb-false}
use Rattle.lemmas.proofs.Choice.{and_left, and_right, or_left}
use Rattle.plain.specs.Octets.{octet_at, options_of, of_type, first_body, any_bad, art_type, plen_of, request_counts, reply_counts, malformed, unfit, mop_of, fields, sum}
use Rattle.option.specs.Follows.{part_of}
use Rattle.scan.specs.declared.Scan.{Scan}
use Rattle.scan.specs.Scanned.{Outlined}

same_test : (a b : Bool) → (a ≡ true → b ≡ true) → (a ≡ false → b ≡ false) → a ≡ b
same_test true b f g = sym (f refl)
same_test false b f g = sym (g refl)

-- a count that stops at 2 answers as the number itself, where it is compared with 0 or 1
module _ (m n k : ℕ) (h : m ≤ 1) (e : min 2 n ≡ k) where
  just_is : eqb k m ≡ eqb n m
  just_is =
      same_test _ _ (λ q. eq-eqb n m (omega (arith, eqb-true k m q))) (λ q. ne_eqb n m (λ z. eqb-false k m q (omega arith)))

  over_is : ltb m k ≡ ltb m n
  over_is = same_test _ _ (λ q. lt-ltb m n (omega (arith, ltb-true m k q))) (λ q. le-ltb m n (omega (arith, ltb-false m k q)))

or_third : (a b c d : Bool) → c ≡ true → a || b || c || d ≡ true
or_third true b c d e = refl
or_third false true c d e = refl
or_third false false c d e = rw e

pub once_some : (n : ℕ) → eqb n 1 ≡ true → 0 < n
once_some n e = omega (arith, eqb-true n 1 e)

-- what is counted once, beside other tests
pub first_some : (n : ℕ) (b c : Bool) → (eqb n 1 && b) && c ≡ true → 0 < n
first_some n b c e = once_some n (and_left _ _ (and_left _ _ e))

module _ {msg : List ℕ} {s : Scan} (v : Outlined msg s) where
  pub request_is : eqb s.rreq.count 1 && eqb s.rrep.count 0 && ltb 0 s.art.count ≡ request_counts (options_of msg)
  unfolding request_counts
  request_is = rw (just_is 1 _ _ (omega arith) v.rreq.count, just_is 0 _ _ (omega arith) v.rrep.count, over_is 0 _ _ (omega arith) v.art.count)

  pub reply_is : eqb s.rrep.count 1 && eqb s.rreq.count 0 && eqb s.art.count 1 ≡ reply_counts (options_of msg)
  unfolding reply_counts
  reply_is = rw (just_is 1 _ _ (omega arith) v.rrep.count, just_is 0 _ _ (omega arith) v.rreq.count, just_is 1 _ _ (omega arith) v.art.count)

  -- what `fault::is_reply` says
  module _ {b : Bool} (f : (m : List ℕ) → Outlined m s → b ≡ reply_counts (options_of m)) where
    -- a reply has an ART
    module _ (e : b ≡ true) where
      reply_art : 0 < s.art.count
      reply_art = once_some s.art.count (and_right (eqb s.rrep.count 1 && eqb s.rreq.count 0) _ (reply_is ∙ sym (f msg v) ∙ e))

      pub art_order : s.art.start ≤ s.art.end
      art_order = (v.art.right reply_art).order

      pub art_within : s.art.end ≤ length msg
      art_within = (v.art.right reply_art).within

    -- ---- Answer 3

    module _ (h : any_bad (options_of msg) ≡ false) (l : 24 ≤ length msg) (q : s.configuration.count ≤ 1) where
      malformed_is : b && not (eqb (plen_of (first_body (of_type art_type (options_of msg)))) 0) ≡ malformed msg
      unfolding malformed
      malformed_is =
          rw (f msg v, le-ltb (length msg) 24 l, h, ← over_is 1 _ _ (omega arith) v.configuration.count, le-ltb 1 s.configuration.count q)

      pub malformed_reply : b ≡ true → not (eqb (plen_of (part_of msg s.art.start s.art.end)) 0) ≡ malformed msg
      malformed_reply e = rw (← v.art.body (reply_art e)) (rw e at malformed_is)

      pub malformed_other : b ≡ false → b ≡ malformed msg
      malformed_other e = rw e (rw e at malformed_is)

  pub malformed_many : any_bad (options_of msg) ≡ false → 1 < s.configuration.count → malformed msg ≡ true
  unfolding malformed
  malformed_many h q =
      or_third (ltb (length msg) 24) (any_bad (options_of msg)) _ _
      (sym (over_is 1 _ _ (omega arith) v.configuration.count) ∙ lt-ltb 1 s.configuration.count q)

pub malformed_short : (msg : List ℕ) → length msg < 24 → malformed msg ≡ true
unfolding malformed
malformed_short msg h = rw (lt-ltb (length msg) 24 h)

or_second : (a b c d : Bool) → b ≡ true → a || b || c || d ≡ true
or_second true b c d e = refl
or_second false b c d e = rw e

pub malformed_bad : (msg : List ℕ) → any_bad (options_of msg) ≡ true → malformed msg ≡ true
unfolding malformed
malformed_bad msg e = or_second (ltb (length msg) 24) _ _ _ e

module _ (msg : List ℕ) (e : malformed msg ≡ false) where
  pub formed_long : 24 ≤ length msg
  unfolding malformed
  formed_long = ltb-false (length msg) 24 (or_left _ _ (or_left _ _ (or_left _ _ e)))

-- ---- Answer 4

pub mop_is : (msg : List ℕ) (n : ℕ) → n ≡ octet_at msg 4 → n / 8 % 8 ≡ mop_of msg
unfolding fields sum
mop_is msg n e = rw e

pub unfit_mop : (msg : List ℕ) → (mop_of msg ≡ 4 → ⊥) → unfit msg ≡ true
unfolding unfit
unfit_mop msg h = rw (ne_eqb (mop_of msg) 4 h)

pub unfit_is : (msg : List ℕ) → mop_of msg ≡ 4 → not (request_counts (options_of msg) || reply_counts (options_of msg)) ≡ unfit msg
unfolding unfit
unfit_is msg h = rw (eq-eqb (mop_of msg) 4 h)
