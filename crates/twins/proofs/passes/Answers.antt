use mathlib.Core.Bool.{true}
use Rattle.std.proofs.Common.{◌+◌, rules, tests}
use Rattle.std.proofs.lemmas.Iterator.{YieldsList-from_range}
use Rattle.plain.specs.Lists.{any_two}
use Rattle.key.specs.Pair.{twins_by}
use Rattle.lemmas.proofs.Library.{settled_run}
use Rattle.filter.specs.Filter.{in_class}
use Rattle.filter.proofs.Filter.{each_of_classes}
use Rattle.twins.proofs.passes.Goals as goal

pub returns : goal.returns
returns g c =
    let m = g.R.Keyed in
    let a = c.args in
    let twins = twins_by m.key (m.live a.t) in
    let mask = c.mask_for-mask.result in
    each_of_classes m.hash twins mask a.rows.now _
    (settled_run true (λ q. any_two (in_class m.hash mask q twins) a.rows.now) _ _ _ c.any.ensures.ran (YieldsList-from_range 0 (mask + 1) (mask + 1) (cc) (search rules)) (λ x b q k. search (rules, tests)))
