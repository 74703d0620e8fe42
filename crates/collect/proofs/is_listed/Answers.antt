use mathlib.Core.Bool.{true}
use Rattle.std.proofs.Common.{rules, tests}
use Rattle.std.proofs.lemmas.Iterator.{YieldsList-from_slice}
use Rattle.lemmas.proofs.Library.{settled_run}
use Rattle.plain.specs.Octets.{same_target}
use Rattle.collect.proofs.is_listed.Goals as goal

pub returns : goal.returns
returns c = settled_run true (same_target c.args.t) _ _ _ c.any.ensures.ran (YieldsList-from_slice c.args.list.now cc) (λ x b q k. search (rules, tests))
