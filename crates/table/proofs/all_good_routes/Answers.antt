use mathlib.Core.Bool.{false}
use mathlib.Core.Path.{◌∙◌, sym}
use Rattle.std.proofs.Common.{rules, tests}
use Rattle.std.proofs.lemmas.Iterator.{YieldsList-from_slice}
use Rattle.plain.specs.Answers.{good_if, good_route}
use Rattle.row.specs.Meaning.{route_of}
use Rattle.lemmas.proofs.Library.{settled_run}
use Rattle.lemmas.proofs.Walk.{all_map}
use Rattle.table.proofs.all_good_routes.Goals as goal

pub returns : goal.returns
returns c =
    settled_run false (λ r. good_if good_route (route_of r)) _ _ _ c.all.ensures.ran (YieldsList-from_slice c.args.routes.now cc) (λ x b q k. search (rules, tests))
    ∙ sym (all_map (good_if good_route) route_of c.args.routes.now)
