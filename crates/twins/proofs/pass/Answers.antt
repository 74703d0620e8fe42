use Rattle.std.proofs.Common.{sym, ◌∙◌, rules}
use lib.ListN.{length-replicate}
use Rattle.slot.specs.Slot.{slot_of}
use Rattle.filter.proofs.Filter.{table, passed_none, passed_hit, passed_more, asked, unasked}
use Rattle.twins.proofs.pass.Goals.{else-maybe-via-then-maybe+else-scan, else-maybe-via-else-maybe}
use Rattle.twins.proofs.pass.Goals as goal

pub loop-j-init : goal.loop-j-init
loop-j-init g c =
    let m = g.R.Keyed in
    let a = c.args in
    passed_none (slot_of g.row.N) (table m.key (m.live a.t) m.hash m.hashed) a.mask a.p a.rows.now g.row.N _ (length-replicate g.row.N 0)

pub returns-then-scan : goal.returns-then-scan
returns-then-scan g c =
    let m = g.R.Keyed in
    let a = c.args in
    sym (passed_hit (slot_of g.row.N) (table m.key (m.live a.t) m.hash m.hashed) a.mask a.p a.rows.now c.loop-j.j c.hash-h.result c.slot_of-s.result c.is_live.result c.is_chosen-on.result c.maybe.result c.loop-j.words c.index-rows-j.result (search rules) c.index-rows-j.is c.hash-h.ensures c.is_live.ensures c.is_chosen-on.ensures c.slot_of-s.ensures.value c.maybe.ensures c.scan.result c.if-maybe.true c.scan.ensures c.if-scan.true)

pub loop-j-preserved : goal.loop-j-preserved
loop-j-preserved g c =
    let m = g.R.Keyed in
    let a = c.args in
    passed_more (slot_of g.row.N) (table m.key (m.live a.t) m.hash m.hashed) a.mask a.p a.rows.now c.loop-j.j c.hash-h.result c.slot_of-s.result c.is_live.result c.is_chosen-on.result c.maybe.result c.loop-j.words c.index-rows-j.result (search rules) c.index-rows-j.is c.hash-h.ensures c.is_live.ensures c.is_chosen-on.ensures c.slot_of-s.ensures.value c.maybe.ensures g.row.N c.marked.result c.loop-j.invariant (search rules)
    (elim c.else-maybe.branch [
      | else-maybe-via-then-maybe+else-scan w ↦ asked c.maybe.result w.scan.result _ w.if-maybe.true w.scan.ensures ∙ w.if-scan.false
      | else-maybe-via-else-maybe w ↦ unasked c.maybe.result _ w.if-maybe.false
    ]) c.marked.ensures
