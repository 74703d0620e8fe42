use mathlib.Core.Path.{ap}
use mathlib.Core.Bool.{not}
use Rattle.kept.proofs.Sifted.{keep_more}
use Rattle.matching.proofs.not_ours.Goals as goal

pub loop-t-preserved : goal.loop-t-preserved
loop-t-preserved c = keep_more _ c.loop-t.invariant c.loop-t-test.true (ap not c.matches_us.ensures) c.keep_if-kept.ensures
