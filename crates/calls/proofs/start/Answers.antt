use mathlib.Core.Path.{◌≡◌, refl, sym, ◌∙◌}
use Rattle.plain.specs.Given.{Event}
use Rattle.start.specs.Start.{start_of}
use Rattle.called.proofs.Laws.{Handed, handed, is_bad_event, Admitted, admit, bad_lent_lem, bad_event, wrong_state_lem, taken_start, start_step}
use Rattle.calls.proofs.start.Goals.{Start, After-is_bad_start, Else-is_wrong}
use Rattle.calls.proofs.start.Goals as goal

-- ---- what is handed in

abbrev given : Start → Handed
given c = let a = c.args in handed a.o a.clock a.seq a.t a.instances.now a.routes.now a.forward.now a.reply.now

abbrev brought : Start → Event
brought c = Event.start (start_of c.args.s c.args.targets.now)

-- ---- what is known

judged : (c : After-is_bad_start) → c.is_bad_start.result ≡ is_bad_event (Event.start (start_of c.args.s c.args.targets.now))
judged c = c.is_bad_start.ensures.told (start_of c.args.s c.args.targets.now) c.gather-g.ensures refl refl refl

-- where neither 1 nor 2 is answered
admitted : (c : Else-is_wrong)
    → let a = c.args in Admitted (handed a.o a.clock a.seq a.t a.instances.now a.routes.now a.forward.now a.reply.now) (Event.start (start_of a.s a.targets.now))
admitted c =
    let judged = c.is_bad_start.ensures.told (start_of c.args.s c.args.targets.now) c.gather-g.ensures refl refl refl in
    admit c.is_bad.ensures c.if-is_bad.false (sym judged ∙ c.if-is_bad_start.false) c.is_wrong.ensures c.if-is_wrong.false

-- ---- the parts

pub returns-then-is_bad : goal.returns-then-is_bad
returns-then-is_bad c =
    let s = (goal.at.returns-then-is_bad c).Start in
    bad_lent_lem (given s) (brought s) _ c.bad_call.result (sym c.is_bad.ensures ∙ c.if-is_bad.true) refl c.bad_call.ensures

pub returns-then-is_bad_start : goal.returns-then-is_bad_start
returns-then-is_bad_start c =
    let s = goal.at.returns-then-is_bad_start c in
    bad_event (given s.Start) (brought s.Start) _ c.bad_call-then-is_bad_start.result (sym c.is_bad.ensures ∙ c.if-is_bad.false)
    (sym (judged s.After-is_bad_start) ∙ c.if-is_bad_start.true) refl c.bad_call-then-is_bad_start.ensures

pub returns-then-is_wrong : goal.returns-then-is_wrong
returns-then-is_wrong c =
    let s = goal.at.returns-then-is_wrong c in
    wrong_state_lem (given s.Start) (brought s.Start) _ c.refused.result (sym c.is_bad.ensures ∙ c.if-is_bad.false)
    (sym (judged s.After-is_bad_start) ∙ c.if-is_bad_start.false) (sym c.is_wrong.ensures ∙ c.if-is_wrong.true) c.wrong_state.ensures c.refused.ensures

pub take_start-requires : goal.take_start-requires
take_start-requires c =
    taken_start (admitted (goal.at.take_start-requires c).Else-is_wrong) c.gather-g.result c.gather-g.ensures _ refl

pub returns : goal.returns
returns c =
    rw (start_step (admitted (goal.at.returns c).Else-is_wrong) c.gather-g.result c.gather-g.ensures _ refl) (c.take_start.ensures c.args.targets.now)
