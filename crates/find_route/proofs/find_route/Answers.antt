use Rattle.std.proofs.Common.{rules, tests}
use Rattle.std.proofs.lemmas.Iterator.{YieldsList-from_slice}
use Rattle.row.specs.Meaning.{route_of}
use Rattle.keyed.specs.Look.{route_here}
use Rattle.first.proofs.Library.{position_run}
use Rattle.find_route.proofs.find_route.Goals as goal

pub returns : goal.returns
returns c =
    position_run route_of (route_here c.args.t c.args.source c.args.destination c.args.instance) _ _ _ c.position.ensures.ran
    (YieldsList-from_slice c.args.routes.now cc) (λ x b q k. search (rules, tests))
