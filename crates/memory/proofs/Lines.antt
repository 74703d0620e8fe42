-- What is known of a call that no line refuses, and what every call comes to.
use Prim.Native.Nat.{ℕ, ◌^◌, ◌≤◌}
use mathlib.Core.Path.{◌≡◌, refl}
use mathlib.Core.Bool.{Bool, true, false, ◌||◌}
use native.Mathlib.Omega.{arith}
use lib.Dec.{eqb}
use borrow.Author.Tests.{eqb-true}
use Rattle.plain.specs.Given.{Settings, Lent, Received, Start, Event, Call}
use Rattle.plain.specs.Answers.{answer_of, View, bad_lent, bad_start}
use Rattle.plain.specs.Octets.{message_of, too_many}
use Rattle.plain.specs.Request.{start_targets, start_lines}
use Rattle.plain.specs.Plain.{message_lines, lines, accept, Decision, decide}
use Rattle.lemmas.proofs.Choice.{cond_case, true_false}
use Rattle.lemmas.proofs.Rules.{unheld, lent_bounds}

-- the first three of six tests
pub none_of_six : (a b c d e f : Bool) → a || b || c || d || e || f ≡ false → (a ≡ false) × (b ≡ false) × (c ≡ false)
none_of_six true b c d e f h = true_false h
none_of_six false true c d e f h = true_false h
none_of_six false false true d e f h = true_false h
none_of_six false false false d e f h = (refl, refl, refl)

-- what line 1 leaves of a call's time
in-time : (x : Settings) (clock : ℕ) (c : Lent) → bad_lent x clock c ≡ false → (clock ≤ c.time) × (c.time ≤ 2 ^ 40)
in-time x clock c e =
    let b = lent_bounds x clock c e in
    (b.0, b.1)

-- a message that no line refuses
pub heard : (x : Settings) (good : Bool) (v : View) (c : Lent) (r : Received) → answer_of (lines x good v c (Event.message r)) ≡ 0
    → (bad_lent x v.clock c ≡ false)
    × (too_many (message_of r.octets) ≡ false)
    × (answer_of (message_lines x v c.time r (message_of r.octets)) ≡ 0)
unfolding lines
heard x good v c r e =
    let k1 = unheld _ _ e (omega arith) in
    let k2 = unheld _ _ k1.1 (omega arith) in
    let k3 = unheld _ _ k2.1 (omega arith) in
    let k4 = unheld _ _ k3.1 (omega arith) in
    let k5 = unheld _ _ k4.1 (omega arith) in
    let k6 = unheld _ _ k5.1 (omega arith) in
    let k7 = unheld _ _ k6.1 (omega arith) in
    let k8 = unheld _ _ k7.1 (omega arith) in
    (k1.0, k7.0, k8.1)

-- a start that no line refuses
pub begun : (x : Settings) (good : Bool) (v : View) (c : Lent) (s : Start) → answer_of (lines x good v c (Event.start s)) ≡ 0
    → (bad_lent x v.clock c ≡ false) × (bad_start s (start_targets s) ≡ false) × (answer_of (start_lines x v c.time s) ≡ 0)
unfolding lines
begun x good v c s e =
    let k1 = unheld _ _ e (omega arith) in
    let k2 = unheld _ _ k1.1 (omega arith) in
    let k3 = unheld _ _ k2.1 (omega arith) in
    (k1.0, k2.0, k3.1)

-- the time of a call that no line refuses
pub accepted_time : (x : Settings) (good : Bool) (v : View) (c : Lent) (e : Event) → answer_of (lines x good v c e) ≡ 0
    → (v.clock ≤ c.time) × (c.time ≤ 2 ^ 40)
accepted_time x good v c (Event.message r) e = in-time x v.clock c (heard x good v c r e).0
accepted_time x good v c (Event.start s) e = in-time x v.clock c (begun x good v c s e).0

-- what holds of an outcome where no line refuses, and of a refusal, holds of every decision
pub decide_case : (P : Decision → Type 0) (x : Settings) (good : Bool) (v : View) (c : Call)
    → (answer_of (lines x good v c.lent c.event) ≡ 0 → P (Decision.take (accept x v c.lent c.event)))
    → P (Decision.refuse (answer_of (lines x good v c.lent c.event)))
    → P (decide x good v c)
unfolding decide
decide_case P x good v c f r =
    let k : ℕ = answer_of (lines x good v c.lent c.event) in
    cond_case P (eqb k 0) (Decision.take (accept x v c.lent c.event)) (Decision.refuse k) (λ e. f (eqb-true k 0 e)) (λ e. r)
