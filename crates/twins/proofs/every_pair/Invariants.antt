use Rattle.std.proofs.Common.{◌≡◌, ◌≤◌, false, length, take}
use Rattle.plain.specs.Lists.{any_two}
use Rattle.key.specs.Pair.{twins_by}
use Rattle.twins.proofs.every_pair.Given as goal

abbrev pub invariant-loop-j : goal.invariant-loop-j
invariant-loop-j g l =
    let m = g.R.Keyed in
    (l.j ≤ length l.rows) × (any_two (twins_by m.key (m.live l.t)) (take l.j l.rows) ≡ false)
