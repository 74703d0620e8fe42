use Prim.Native.Nat.{ℕ}
use mathlib.Core.Path.{ap, ◌∙◌}
use lib.Dec.{eqb}
use Rattle.std.proofs.Common.{rules, tests}
use Rattle.std.proofs.lemmas.Iterator.{YieldsList-from_slice}
use Rattle.std.proofs.lemmas.Iterator.Consumers.{count_from_yields_List, YieldsList-from_filter}
use Rattle.lemmas.proofs.Library.{filter_counted}
use Rattle.plain.specs.Lists.{same}
use Rattle.loops.proofs.stands_once.Goals as goal

pub returns : goal.returns
returns c =
    ap (λ (k : ℕ). eqb k 1)
    (count_from_yields_List c.filter.result _ c.count.ensures.ran (YieldsList-from_filter _ (same c.args.a) (YieldsList-from_slice c.args.vector.now cc) c.filter.ensures.closure (λ x b q k. search (rules, tests)))
    ∙ filter_counted (same c.args.a) _)
