use Rattle.std.proofs.Common.{eqb, take, sym, ◌∙◌, rules}
use borrow.Author.Tests.{eq-eqb}
use Rattle.key.specs.Pair.{twins_by}
use Rattle.key.proofs.Any.{two_start, two_hit, two_more, any_less}
use Rattle.key.proofs.Plain.{twins_are}
use Rattle.twins.proofs.every_pair.Goals.{else-has_ending-via-then-has_ending+else-scan, else-has_ending-via-else-has_ending}
use Rattle.twins.proofs.every_pair.Goals as goal

pub loop-j-init : goal.loop-j-init
loop-j-init g c = let m = g.R.Keyed in (search rules, two_start (twins_by m.key (m.live c.args.t)) c.args.rows.now)

pub returns-then-scan : goal.returns-then-scan
returns-then-scan g c =
    let m = g.R.Keyed in
    let a = c.args in
    sym (two_hit (twins_by m.key (m.live a.t)) a.rows.now c.loop-j.j c.index-rows-j.result (search rules) c.index-rows-j.is (sym c.scan.ensures ∙ c.if-scan.true))

pub loop-j-preserved : goal.loop-j-preserved
loop-j-preserved g c =
    let m = g.R.Keyed in
    let a = c.args in
    let l = c.loop-j in
    let row = c.index-rows-j.result in (
      search rules,
      two_more (twins_by m.key (m.live a.t)) a.rows.now l.j row (search rules) c.index-rows-j.is l.invariant.1
          (elim c.else-has_ending.branch [
            | else-has_ending-via-then-has_ending+else-scan w ↦ sym w.scan.ensures ∙ w.if-scan.false
            | else-has_ending-via-else-has_ending w ↦ any_less (λ x. twins_by m.key (m.live a.t) x row) (λ x. eqb (m.ending x) (m.ending row))
                (λ x e. eq-eqb _ _ (m.ended x row (twins_are m.key (m.live a.t) x row e).0)) (take l.j a.rows.now) (sym (rw c.ending.ensures at c.has_ending.ensures) ∙ w.if-has_ending.false)
          ]),
    )
