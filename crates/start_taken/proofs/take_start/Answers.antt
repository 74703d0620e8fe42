use mathlib.Core.Path.{◌≡◌, sym, ap, ◌∙◌}
use mathlib.Core.List.{[]}
use lib.ListN.{length, length-replicate}
use borrow.Author.Tests.{eq-eqb}
use Rattle.std.proofs.Common.{rules}
use Rattle.plain.specs.Address.{zero_address}
use Rattle.plain.specs.Request.{accept_start}
use Rattle.answer.specs.Answer.{answer_number}
use Rattle.own.specs.Settings.{settings_of}
use Rattle.decision.specs.Blank.{no_post}
use Rattle.rule.proofs.Laws.{posts_nothing}
use Rattle.finish.proofs.Laws.{refused_gives}
use Rattle.start_taken.specs.Taken.{start_decision}
use Rattle.start_taken.proofs.Laws.{start_answer_lem, new_settled, new_ready}
use Rattle.start_taken.proofs.take_start.Goals.{Then-ne, Else-ne}
use Rattle.start_taken.proofs.take_start.Goals as goal

-- ---- what is known

-- where the answer is 0, or is not
done : (c : Else-ne) → answer_number c.judge-answer.result ≡ 0
done c = search (rules, c.ne.ensures, c.if-ne.false)

not_done : (c : Then-ne) → answer_number c.judge-answer.result ≡ 0 → ⊥
not_done c e = search (rules, c.ne.ensures, c.if-ne.true, e)

-- ---- the parts

pub returns-then-ne : goal.returns-then-ne
unfolding start_decision
returns-then-ne c =
    λ targets.
    let a = c.args in
    let rows = a.instances.now in
    let routes = a.routes.now in
    let is = c.has_request-taken in
    let judge = c.judge-answer in
    let e = judge.ensures ∙ start_answer_lem a.call.clock a.call.seq a.call.time rows routes a.call.own a.s is.result (is.ensures a.call.clock c.requires.later) targets in
    refused_gives a.call.clock a.call.seq a.call.time rows routes a.forward.now a.reply.now _ _ judge.result c.refused.result e
    (λ z. not_done (goal.at.returns-then-ne c).Then-ne (e ∙ z)) c.refused.ensures

pub finish-requires : goal.finish-requires
finish-requires c =
    let a = c.args in
    let there = c.start_post-there in
    new_ready c.none_live.result c.none_live.ensures (settings_of a.call.own) a.call.time a.instances.now a.routes.now a.forward.now a.reply.now c.no_vector-vector.result there.result no_post
    c.requires.forward_room c.requires.reply_room (ap length c.no_vector-vector.ensures ∙ length-replicate 16 zero_address) (there.ensures a.call.time _ []).fits tt

pub returns : goal.returns
unfolding start_decision accept_start
returns c =
    λ targets.
    let a = c.args in
    let rows = a.instances.now in
    let routes = a.routes.now in
    let is = c.has_request-taken in
    let judge = c.judge-answer in
    let zero =
    sym (start_answer_lem a.call.clock a.call.seq a.call.time rows routes a.call.own a.s is.result (is.ensures a.call.clock c.requires.later) targets)
    ∙ (sym judge.ensures ∙ done (goal.at.returns c).Else-ne) in
    rw (eq-eqb _ 0 zero)
    (c.finish.ensures _
    (new_settled c.none_live.result c.none_live.ensures (settings_of a.call.own) c.no_vector-vector.result _ c.accepted-d.result c.start_post-there.result no_post
    (c.accepted-d.ensures targets) (c.start_post-there.ensures a.call.time c.no_vector-vector.result targets) (posts_nothing (settings_of a.call.own) c.no_vector-vector.result)))
