use mathlib.Core.Path.{◌≡◌, refl, sym, ◌∙◌}
use native.Mathlib.Omega.{arith}
use Rattle.std.proofs.Common.{rules}
use Rattle.plain.specs.Answers.{view_of, answer_of}
use Rattle.plain.specs.Plain.{idle}
use Rattle.answer.specs.Answer.{answer_number}
use Rattle.own.specs.Settings.{settings_of}
use Rattle.decision.specs.Blank.{no_post}
use Rattle.rule.proofs.Laws.{posts_nothing}
use Rattle.reply.specs.Facts.{answered_of}
use Rattle.finish.specs.Gives.{state_of}
use Rattle.finish.proofs.Laws.{refused_gives}
use Rattle.finish.proofs.Settles.{ready}
use Rattle.finish.proofs.Decides.{refused, taken}
use Rattle.reply_taken.proofs.Laws.{no_partner_is, reply_is, answered_is}
use Rattle.reply_taken.proofs.Answered.{Known, asking, lines, accept, reply_decided, reply_rank, reply_room_lem, reply_settled}
use Rattle.reply_taken.proofs.take_reply.Goals.{After-gather-a, Then-ne, Else-ne}
use Rattle.reply_taken.proofs.take_reply.Goals as goal

-- ---- what is known

-- when the facts are gathered
known : (c : After-gather-a)
    → Known c.args.call.clock c.args.call.seq
    c.args.call.time c.args.instances.now
    c.args.routes.now c.args.call.own
    c.args.k c.args.p.now
    c.args.vector.now c.search_reply-f.result
    c.search_route-g.result c.in-Some.partner.row c.gather-a.result
known c =
    let a = c.args in
    let rows = a.instances.now in
    let routes = a.routes.now in
    let vector = a.vector.now in
    let number = c.partner_number-number in
    let orig = c.orig_node-orig in
    let w = c.search_partner in
    let f = c.search_reply-f in
    let g = c.search_route-g in
    record {
      gathered = c.gather-a.ensures vector;
      found =
          answered_is a.call.clock a.call.seq a.call.time rows routes a.call.own a.k a.p.now vector number.result orig.result (number.ensures vector)
          (orig.ensures vector) w.result (w.ensures a.call.clock c.requires.later) f.result g.result
          (f.ensures.found a.call.clock c.requires.later) (g.ensures.found a.call.clock c.requires.later);
      decided =
          reply_is a.call.clock a.call.seq a.call.time rows routes a.call.own a.k a.p.now vector number.result orig.result (number.ensures vector)
          (orig.ensures vector) w.result (w.ensures a.call.clock c.requires.later) c.in-Some.partner c.in-Some.is;
    }

-- and where the answer is 0, or is not
done : (c : Else-ne) → answer_number c.judge-answer.result ≡ 0
done c = search (rules, c.ne.ensures, c.if-ne.false)

not_done : (c : Then-ne) → answer_number c.judge-answer.result ≡ 0 → ⊥
not_done c e = search (rules, c.ne.ensures, c.if-ne.true, e)

zero : (c : Else-ne) (h : Known c.args.call.clock c.args.call.seq c.args.call.time c.args.instances.now c.args.routes.now c.args.call.own c.args.k c.args.p.now c.args.vector.now c.search_reply-f.result
    c.search_route-g.result c.in-Some.partner.row c.gather-a.result) → answer_of (lines h (answered_of c.gather-a.result)) ≡ 0
zero c h = sym c.judge-answer.ensures ∙ done c

-- ---- the parts

pub returns-in_default : goal.returns-in_default
returns-in_default c =
    let a = c.args in
    let rows = a.instances.now in
    let routes = a.routes.now in
    let vector = a.vector.now in
    let number = c.partner_number-number in
    let orig = c.orig_node-orig in
    let w = c.search_partner in
    rw (no_partner_is a.call.clock a.call.seq a.call.time rows routes a.call.own a.k a.p.now vector number.result orig.result (number.ensures vector)
    (orig.ensures vector) w.result (w.ensures a.call.clock c.requires.later) c.in_default.is)
    (refused_gives a.call.clock a.call.seq a.call.time rows routes a.forward.now a.reply.now 8 (idle (view_of (state_of a.call.clock a.call.seq rows routes))) _
    c.refused.result refl (λ z. absurd (omega arith)) c.refused.ensures)

pub returns-then-ne : goal.returns-then-ne
returns-then-ne c =
    let a = c.args in
    let h = known (goal.at.returns-then-ne c).After-gather-a in
    refused (lines h) (accept h) (answered_of c.gather-a.result) (asking h) h.gathered.means _ (reply_decided h) a.call.clock a.call.seq a.call.time
    a.instances.now a.routes.now a.forward.now a.reply.now c.judge-answer.result (answer_number c.judge-answer.result)
    c.refused-then-ne.result c.judge-answer.ensures refl (not_done (goal.at.returns-then-ne c).Then-ne) c.refused-then-ne.ensures

pub accepted-d-requires : goal.accepted-d-requires
accepted-d-requires c = (c.requires.time, reply_rank (known (goal.at.accepted-d-requires c).After-gather-a) (zero (goal.at.accepted-d-requires c).Else-ne (known (goal.at.accepted-d-requires c).After-gather-a)))

pub forward_post-there-requires : goal.forward_post-there-requires
forward_post-there-requires c =
    let h = known (goal.at.forward_post-there-requires c).After-gather-a in
    let z = zero (goal.at.forward_post-there-requires c).Else-ne (known (goal.at.forward_post-there-requires c).After-gather-a) in
    let v = c.whole in
    (c.requires.heard, record { places = v.ensures.0; whole = v.ensures.1 }, reply_rank h z, reply_room_lem h z)

pub finish-requires : goal.finish-requires
finish-requires c =
    let a = c.args in
    let vector = a.vector.now in
    let f = c.search_reply-f in
    let g = c.search_route-g in
    let v = c.whole in
    let there = c.forward_post-there in
    let l = c.live_of-l in
    ready f.result g.result l.result l.ensures (settings_of a.call.own) a.call.time a.instances.now a.routes.now
    a.forward.now a.reply.now vector there.result no_post f.ensures.here.within f.ensures.here.lives
    g.ensures.here.within g.ensures.here.lives c.requires.forward_room c.requires.reply_room
    v.ensures.0 there.ensures.fits tt

pub returns : goal.returns
returns c =
    let a = c.args in
    let vector = a.vector.now in
    let h = known (goal.at.returns c).After-gather-a in
    let d = c.accepted-d in
    let there = c.forward_post-there in
    let l = c.live_of-l in
    rw (taken (lines h) (accept h) (answered_of c.gather-a.result) (asking h) h.gathered.means _ (reply_decided h) (zero (goal.at.returns c).Else-ne (known (goal.at.returns c).After-gather-a)))
    (c.finish.ensures _
    (reply_settled h l.result l.ensures d.result there.result no_post (d.ensures (settings_of a.call.own) vector) there.ensures
    (posts_nothing (settings_of a.call.own) vector)))
