use mathlib.Core.Bool.{true}
use Rattle.std.proofs.Common.{rules, tests}
use Rattle.std.proofs.lemmas.Iterator.{YieldsList-from_slice}
use Rattle.key.specs.Pair.{twins_by}
use Rattle.lemmas.proofs.Library.{settled_run}
use Rattle.twins.proofs.scan.Goals as goal

pub returns : goal.returns
returns g c =
    let m = g.R.Keyed in
    settled_run true (λ a. twins_by m.key (m.live c.args.t) a c.args.row.now) _ _ _ c.any.ensures.ran (YieldsList-from_slice c.args.before.now cc) (λ x b q k. search (rules, tests))
