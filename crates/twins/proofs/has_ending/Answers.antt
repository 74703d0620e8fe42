use mathlib.Core.Bool.{true}
use Rattle.std.proofs.Common.{eqb, rules, tests}
use Rattle.std.proofs.lemmas.Iterator.{YieldsList-from_slice}
use Rattle.lemmas.proofs.Library.{settled_run}
use Rattle.twins.proofs.has_ending.Goals as goal

pub returns : goal.returns
returns g c = settled_run true (λ a. eqb (g.R.Keyed.ending a) c.args.e) _ _ _ c.any.ensures.ran (YieldsList-from_slice c.args.rows.now cc) (λ x b q k. search (rules, tests))
