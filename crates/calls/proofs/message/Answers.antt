use mathlib.Core.Path.{refl, sym, ◌∙◌}
use Rattle.plain.specs.Given.{Event}
use Rattle.message.specs.Message.{received_by}
use Rattle.called.proofs.Laws.{Handed, handed, Admitted, admit, Understood, bad_lent_lem, bad_event, wrong_state_lem, short, long, octets_refused, octets_read, own_refused, taken, reply_step, request_step}
use Rattle.calls.proofs.message.Goals.{Start, Else-is_wrong, After-vector_of-v, then-is_bad-via-then-is_bad, then-is_bad-via-else-is_bad+then-octets-gt1236}
use Rattle.calls.proofs.message.Goals as goal

-- ---- what is handed in

abbrev given : Start → Handed
given c = let a = c.args in handed a.o a.clock a.seq a.t a.instances.now a.routes.now a.forward.now a.reply.now

abbrev brought : Start → Event
brought c = Event.message (received_by c.args.k c.args.octets.now)

-- ---- what is known

-- where neither 1 nor 2 is answered
admitted : (c : Else-is_wrong)
    → let a = c.args in Admitted (handed a.o a.clock a.seq a.t a.instances.now a.routes.now a.forward.now a.reply.now) (Event.message (received_by a.k a.octets.now))
admitted c = admit c.is_bad.ensures c.if-is_bad.false (short c.args.octets.now c.if-octets-gt1236.false) c.is_wrong.ensures c.if-is_wrong.false

-- the message, where none of 3 to 7 is either
understood : (c : After-vector_of-v)
    → let a = c.args in Understood (handed a.o a.clock a.seq a.t a.instances.now a.routes.now a.forward.now a.reply.now) a.k a.octets.now c.in-Ok.r
    c.parsed-p.result c.vector_of-v.result
understood c = record {
  read =
      octets_read (admit c.is_bad.ensures c.if-is_bad.false (short c.args.octets.now c.if-octets-gt1236.false) c.is_wrong.ensures c.if-is_wrong.false)
      c.in-Ok.r (rw c.in-Ok.is at c.read.ensures.heard) (rw c.in-Ok.is at c.read.ensures.bounded);
  foreign = sym c.is_ours.ensures ∙ c.if-is_ours.false;
  parsed = c.parsed-p.ensures;
  vector = c.vector_of-v.ensures;
}

-- ---- the parts

pub returns-then-is_bad : goal.returns-then-is_bad
returns-then-is_bad c =
    let s = (goal.at.returns-then-is_bad c).Start in
    elim c.then-is_bad.branch [
      | then-is_bad-via-then-is_bad w ↦
          bad_lent_lem (given s) (brought s) _ c.bad_call.result (sym c.is_bad.ensures ∙ w.if-is_bad.true) refl c.bad_call.ensures
      | then-is_bad-via-else-is_bad+then-octets-gt1236 w ↦
          bad_event (given s) (brought s) _ c.bad_call.result (sym c.is_bad.ensures ∙ w.if-is_bad.false)
          (long c.args.octets.now w.if-octets-gt1236.true) refl c.bad_call.ensures
    ]

pub returns-then-is_wrong : goal.returns-then-is_wrong
returns-then-is_wrong c =
    let s = (goal.at.returns-then-is_wrong c).Start in
    wrong_state_lem (given s) (brought s) _ c.refused.result (sym c.is_bad.ensures ∙ c.if-is_bad.false)
    (short c.args.octets.now c.if-octets-gt1236.false) (sym c.is_wrong.ensures ∙ c.if-is_wrong.true) c.wrong_state.ensures c.refused.ensures

pub returns-in-Err : goal.returns-in-Err
returns-in-Err c =
    octets_refused (admitted (goal.at.returns-in-Err c).Else-is_wrong) c.in-Err.refusal (rw c.in-Err.is at c.read.ensures.heard) _
    c.octets_answer.ensures c.refused-in-Err.result c.refused-in-Err.ensures

pub returns-then-is_ours : goal.returns-then-is_ours
returns-then-is_ours c =
    let read = octets_read (admitted (goal.at.returns-then-is_ours c).Else-is_wrong) c.in-Ok.r (rw c.in-Ok.is at c.read.ensures.heard) (rw c.in-Ok.is at c.read.ensures.bounded) in
    own_refused read (sym c.is_ours.ensures ∙ c.if-is_ours.true) _ refl c.refused-then-is_ours.result c.refused-then-is_ours.ensures

pub take_reply-requires : goal.take_reply-requires
take_reply-requires c = taken (understood (goal.at.take_reply-requires c).After-vector_of-v)

pub returns-then-is_reply : goal.returns-then-is_reply
returns-then-is_reply c =
    rw (reply_step (understood (goal.at.returns-then-is_reply c).After-vector_of-v) (sym c.is_reply.ensures ∙ c.if-is_reply.true)) c.take_reply.ensures

pub take_request-requires : goal.take_request-requires
take_request-requires c = taken (understood (goal.at.take_request-requires c).After-vector_of-v)

pub returns : goal.returns
returns c =
    rw (request_step (understood (goal.at.returns c).After-vector_of-v) (sym c.is_reply.ensures ∙ c.if-is_reply.false)) c.take_request.ensures
