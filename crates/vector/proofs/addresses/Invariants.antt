use mathlib.Core.Path.{◌≡◌}
use lib.ListN.{length}
use Rattle.vector.proofs.Laws.{Restoring}
use Rattle.vector.proofs.addresses.Given as goal

abbrev pub invariant-loop-i : goal.invariant-loop-i
invariant-loop-i l =
    (length l.vector ≡ 16) × (l.i-iterator.iter.size ≡ l.width)
    × Restoring l.compr l.dodagid l.part l.vector l.i-iterator.iter.rest.now l.i-iterator.count
