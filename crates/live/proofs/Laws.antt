-- What the kind of a record and its deadline say of its meaning.
use Prim.Native.Nat.{ℕ, ◌+◌, ◌*◌, ◌/◌, ◌%◌, max}
use mathlib.Core.Path.{◌≡◌, refl, sym, ◌∙◌}
use mathlib.Core.Bool.{Bool, true, false, cond, not, ◌||◌}
use mathlib.Core.Option.{some, none}
use native.Mathlib.Omega.{arith}
use lib.Arith.{bin_ind}
use lib.Bits.{bit_or, or_step}
use lib.Dec.{eqb, ltb}
use borrow.Author.Tests.{eqb-true, eqb-false}
use Rattle.plain.specs.Given.{Instance}
use Rattle.plain.specs.Octets.{bit}
use Rattle.plain.specs.Table.{lasts, live, instance_deadline}
use Rattle.lemmas.proofs.Choice.{true_false}
use Rattle.row.specs.Meaning.{deadline_of, request_of, reply_of, instance_of}
use Rattle.row.specs.declared.InstanceRow.{InstanceRow}
use Rattle.row.proofs.Laws.{flag_bit}

module _ (t : ℕ) (r : InstanceRow) where
  pub live_used : eqb r.kind 1 || eqb r.kind 2 ≡ true
      → live instance_deadline t (instance_of r) ≡ lasts t (deadline_of r.endless r.deadline)
  unfolding instance_of request_of reply_of
  live_used = go (eqb r.kind 1) (eqb r.kind 2)
    where
      go : (a b : Bool) → a || b ≡ true
          → live instance_deadline t (cond a (some (Instance.request (request_of r))) (cond b (some (Instance.reply (reply_of r))) none))
          ≡ lasts t (deadline_of r.endless r.deadline)
      go true b e = refl
      go false true e = refl
      go false false e = true_false (sym e)

  pub live_unused : eqb r.kind 1 || eqb r.kind 2 ≡ false → live instance_deadline t (instance_of r) ≡ false
  unfolding instance_of
  live_unused = go (eqb r.kind 1) (eqb r.kind 2)
    where
      go : (a b : Bool) → a || b ≡ false
          → live instance_deadline t (cond a (some (Instance.request (request_of r))) (cond b (some (Instance.reply (reply_of r))) none)) ≡ false
      go true b e = true_false e
      go false true e = true_false e
      go false false e = refl

-- ---- deadlines

-- a row without a deadline, or with a later one, told by one number

or_none : (a b : ℕ) → bit_or a b ≡ 0 → a ≡ 0
or_none a =
    bin_ind (λ (n : ℕ). (b : ℕ) → bit_or n b ≡ 0 → n ≡ 0) (λ b e. refl)
    (λ n ih b e.
    let s : bit_or (n / 2) (b / 2) * 2 + max (n % 2) (b % 2) ≡ 0 = sym (or_step n b) ∙ e in
    let h : n / 2 ≡ 0 = ih (b / 2) (omega arith) in
    omega arith) a

pub lasts_bit : (t endless deadline x : ℕ) → x ≡ bit (ltb t deadline) → not (eqb (bit_or endless x) 0) ≡ lasts t (deadline_of endless deadline)
unfolding deadline_of
lasts_bit t endless deadline x h = rw h (go (eqb endless 0) refl)
  where
    some_bit : (eqb endless 0 ≡ false) → (b : Bool) → eqb (bit_or endless (bit (ltb t deadline))) 0 ≡ b → not b ≡ true
    some_bit e true f =
        absurd (eqb-false endless 0 e (or_none endless (bit (ltb t deadline)) (eqb-true (bit_or endless (bit (ltb t deadline))) 0 f)))
    some_bit e false f = refl

    go : (b : Bool) → eqb endless 0 ≡ b → not (eqb (bit_or endless (bit (ltb t deadline))) 0) ≡ lasts t (cond b (some deadline) none)
    go true e = rw (eqb-true endless 0 e) (flag_bit (ltb t deadline))
    go false e = some_bit e (eqb (bit_or endless (bit (ltb t deadline))) 0) refl
