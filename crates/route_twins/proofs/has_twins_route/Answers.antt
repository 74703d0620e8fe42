use Rattle.std.proofs.Common.{◌∙◌}
use Rattle.route_key.proofs.Plain.{routes_twins}
use Rattle.route_twins.proofs.has_twins_route.Goals as goal

pub returns : goal.returns
returns c = c.has_pair.ensures ∙ routes_twins c.args.clock c.args.routes.now
