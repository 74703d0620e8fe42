-- The own sequence number is never 0 and fits an octet.
use Prim.Native.Nat.{ℕ, ◌+◌, ◌<◌}
use mathlib.Core.Path.{◌≡◌, refl}
use mathlib.Core.Bool.{Bool, true, false, cond}
use mathlib.Core.Option.{Option, some, none}
use native.Mathlib.Omega.{arith}
use lib.Dec.{eqb}
use borrow.Author.Tests.{eqb-false}
use Rattle.plain.specs.Given.{Settings, Lent, Received, Event, Call, RequestRow, State}
use Rattle.plain.specs.Table.{Numbered}
use Rattle.plain.specs.Answers.{View, view_of}
use Rattle.plain.specs.Octets.{Message, message_of}
use Rattle.plain.specs.Rank.{stepped}
use Rattle.plain.specs.Request.{Accepted, asked, replies_now, accept_request, accept_start}
use Rattle.plain.specs.Reply.{partner_of, accept_reply}
use Rattle.plain.specs.Plain.{Result, accept_with, accept_message, accept, step}
use Rattle.lemmas.proofs.Choice.{cond_case}
use Rattle.memory.proofs.Step.{step_case}

abbrev pub Own : ℕ → Type 0
Own n = (0 < n) × (n < 256)

stepped_own : (n : ℕ) → Own n → Own (stepped n)
unfolding stepped
stepped_own n h = go (eqb n 127) (eqb n 255) (λ e. eqb-false n 255 e)
  where
    go : (a b : Bool) → (b ≡ false → n ≡ 255 → ⊥) → Own (cond a 1 (cond b 1 (n + 1)))
    go true b f = omega arith
    go false true f = omega arith
    go false false f = omega (arith, f refl)

with_own : (x : Settings) (v : View) (t : ℕ) (c : Received) (m : Message) (p : Option (Numbered RequestRow)) → Own v.own
    → Own (accept_with x c m v t p).own
unfolding accept_reply
with_own x v t c m none h = h
with_own x v t c m (some p) h = h

request_own : (x : Settings) (v : View) (t : ℕ) (c : Received) (m : Message) → Own v.own
    → Own (accept_request x v.own t c m (asked x v t c m)).own
unfolding accept_request
request_own x v t c m h =
    cond_case Own (replies_now (asked x v t c m)) (stepped v.own) v.own (λ e. stepped_own v.own h) (λ e. h)

accept_own : (x : Settings) (v : View) (c : Lent) (e : Event) → Own v.own → Own (accept x v c e).own
unfolding accept accept_message accept_start
accept_own x v c (Event.message r) h =
    let m : Message = message_of r.octets in
    cond_case (λ (a : Accepted). Own a.own) m.discovery.reply (accept_with x r m v c.time (partner_of v c.time m))
    (accept_request x v.own c.time r m (asked x v c.time r m))
    (λ e. with_own x v c.time r m (partner_of v c.time m) h) (λ e. request_own x v c.time r m h)
accept_own x v c (Event.start s) h = stepped_own v.own h

pub step_own : (x : Settings) (s : State) (c : Call) → Own s.own → Own (step x s c).state.own
step_own x s c h = step_case (λ (r : Result). Own r.state.own) x s c h h (λ e. accept_own x (view_of s) c.lent c.event h)
