use mathlib.Core.Path.{◌≡◌, refl, sym, ◌∙◌}
use lib.ListN.{length}
use Rattle.plain.specs.Answers.{answer_of}
use Rattle.answer.specs.Answer.{answer_number}
use Rattle.own.specs.Settings.{settings_of}
use Rattle.decision.specs.Decision.{Posts}
use Rattle.request.specs.Facts.{asked_of}
use Rattle.finish.proofs.Settles.{ready}
use Rattle.finish.proofs.Decides.{refused, taken}
use Rattle.request_taken.proofs.Laws.{asked_is}
use Rattle.request_taken.proofs.Requested.{Known, asking, lines, accept, request_decided, request_sendable, request_room, request_settled}
use Rattle.std.proofs.Common.{rules}
use Rattle.request_taken.proofs.take_request.Goals.{After-forward_post-there, After-gather-a, Then-ne, Else-ne}
use Rattle.request_taken.proofs.take_request.Goals as goal

-- ---- what is known

-- when the facts are gathered
known : (c : After-gather-a)
    → Known c.args.call.clock c.args.call.seq
    c.args.call.time c.args.instances.now
    c.args.routes.now c.args.call.own
    c.args.k c.args.p.now
    c.args.vector.now c.search_request-f.result
    c.search_route-g.result c.free_delta_if-free.result c.gather-a.result
known c =
    let a = c.args in
    let vector = a.vector.now in
    let f = c.search_request-f in
    let g = c.search_route-g in
    let targ = c.is_targ_node-targ in
    let free = c.free_delta_if-free in
    record {
      gathered = c.gather-a.ensures vector;
      found =
          asked_is a.call.clock a.call.seq a.call.time a.instances.now a.routes.now a.call.own a.k a.p.now vector f.result g.result free.result
          (f.ensures.found.0 a.call.clock c.requires.later) (g.ensures.found a.call.clock c.requires.later) targ.result (targ.ensures vector)
          (λ e. free.ensures e a.call.clock c.requires.later);
    }

-- and where the answer is 0, or is not
done : (c : Else-ne) → answer_number c.judge-answer.result ≡ 0
done c = search (rules, c.ne.ensures, c.if-ne.false)

not_done : (c : Then-ne) → answer_number c.judge-answer.result ≡ 0 → ⊥
not_done c e = search (rules, c.ne.ensures, c.if-ne.true, e)

zero : (c : Else-ne) (h : Known c.args.call.clock c.args.call.seq c.args.call.time c.args.instances.now c.args.routes.now c.args.call.own c.args.k c.args.p.now c.args.vector.now c.search_request-f.result
    c.search_route-g.result c.free_delta_if-free.result c.gather-a.result) → answer_of (lines h (asked_of c.gather-a.result)) ≡ 0
zero c h = sym c.judge-answer.ensures ∙ done c

-- the forward that is written
forwarded : (c : After-forward_post-there) (h : Known c.args.call.clock c.args.call.seq c.args.call.time c.args.instances.now c.args.routes.now c.args.call.own c.args.k c.args.p.now c.args.vector.now c.search_request-f.result
    c.search_route-g.result c.free_delta_if-free.result c.gather-a.result)
    → answer_of (lines h (asked_of c.gather-a.result)) ≡ 0
    → Posts (settings_of c.args.call.own) c.args.vector.now (accept h (asked_of c.gather-a.result)).sent.forward
    (accept h (asked_of c.gather-a.result)).sent.forward_to c.forward_post-there.result
forwarded c h z =
    let a = c.args in
    let p : length a.call.own.receiving ≡ 16 = search rules in
    let q : length a.call.own.sending ≡ 16 = search rules in
    c.forward_post-there.ensures (settings_of a.call.own) a.call.seq a.call.time a.vector.now
    (request_room h z c.requires.heard.addresses p q c.whole.ensures.1)

-- ---- the parts

pub returns-then-ne : goal.returns-then-ne
returns-then-ne c =
    let a = c.args in
    let h = known (goal.at.returns-then-ne c).After-gather-a in
    refused (lines h) (accept h) (asked_of c.gather-a.result) (asking h) h.gathered.means _ (request_decided h) a.call.clock a.call.seq a.call.time
    a.instances.now a.routes.now a.forward.now a.reply.now c.judge-answer.result (answer_number c.judge-answer.result)
    c.refused.result c.judge-answer.ensures refl (not_done (goal.at.returns-then-ne c).Then-ne) c.refused.ensures

pub accepted-d-requires : goal.accepted-d-requires
accepted-d-requires c = record { t_bound = c.requires.time; sendable = request_sendable (known (goal.at.accepted-d-requires c).After-gather-a) (zero (goal.at.accepted-d-requires c).Else-ne (known (goal.at.accepted-d-requires c).After-gather-a)) }

pub forward_post-there-requires : goal.forward_post-there-requires
forward_post-there-requires c = record { heard = c.requires.heard; sendable = request_sendable (known (goal.at.forward_post-there-requires c).After-gather-a) (zero (goal.at.forward_post-there-requires c).Else-ne (known (goal.at.forward_post-there-requires c).After-gather-a)) }

pub finish-requires : goal.finish-requires
finish-requires c =
    let a = c.args in
    let f = c.search_request-f in
    let g = c.search_route-g in
    let w = c.whole in
    let there = c.forward_post-there in
    let back = c.reply_post-back in
    let l = c.live_of-l in
    ready f.result g.result l.result l.ensures (settings_of a.call.own) a.call.time a.instances.now a.routes.now
    a.forward.now a.reply.now a.vector.now there.result back.result f.ensures.here.within f.ensures.here.lives
    g.ensures.here.within g.ensures.here.lives c.requires.forward_room
    c.requires.reply_room w.ensures.0 (forwarded (goal.at.finish-requires c).After-forward_post-there (known (goal.at.finish-requires c).After-gather-a) (zero (goal.at.finish-requires c).Else-ne (known (goal.at.finish-requires c).After-gather-a))).fits
    (back.ensures a.call.time a.vector.now w.ensures.0).fits

pub returns : goal.returns
returns c =
    let a = c.args in
    let vector = a.vector.now in
    let h = known (goal.at.returns c).After-gather-a in
    let w = c.whole in
    let d = c.accepted-d in
    let there = c.forward_post-there in
    let back = c.reply_post-back in
    let l = c.live_of-l in
    rw (taken (lines h) (accept h) (asked_of c.gather-a.result) (asking h) h.gathered.means _ (request_decided h) (zero (goal.at.returns c).Else-ne (known (goal.at.returns c).After-gather-a)))
    (c.finish.ensures _
    (request_settled h l.result l.ensures d.result there.result back.result (d.ensures vector) (forwarded (goal.at.returns c).After-forward_post-there (known (goal.at.returns c).After-gather-a) (zero (goal.at.returns c).Else-ne (known (goal.at.returns c).After-gather-a)))
    (back.ensures a.call.time vector w.ensures.0)))
