use Rattle.slot.specs.Slot.{slot_of}
use Rattle.filter.proofs.Filter.{table, Passed}
use Rattle.twins.proofs.pass.Given as goal

abbrev pub invariant-loop-j : goal.invariant-loop-j
invariant-loop-j g l =
    let m = g.R.Keyed in
    Passed (slot_of g.row.N) (table m.key (m.live l.t) m.hash m.hashed) l.mask l.p l.rows g.row.N l.j l.words
