use Rattle.kept.proofs.Sifted.{keep_more}
use Rattle.kept.proofs.common.Goals as goal

pub loop-t-preserved : goal.loop-t-preserved
loop-t-preserved c = keep_more _ c.loop-t.invariant c.loop-t-test.true c.is_listed.ensures c.keep_if-kept.ensures
