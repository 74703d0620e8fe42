use mathlib.Core.Bool.{false}
use lib.Dec.{eqb}
use Rattle.std.proofs.Common.{rules, tests}
use Rattle.std.proofs.lemmas.Iterator.{YieldsList-from_slice}
use Rattle.lemmas.proofs.Library.{settled_run}
use Rattle.unusable.proofs.is_all_zero.Goals as goal

pub returns : goal.returns
returns c = settled_run false (eqb 0) _ _ _ c.all.ensures.ran (YieldsList-from_slice c.args.a cc) (λ x b q k. search (rules, tests))
