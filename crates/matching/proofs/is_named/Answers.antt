use mathlib.Core.Bool.{true}
use Rattle.std.proofs.Common.{rules, tests}
use Rattle.std.proofs.lemmas.Iterator.{YieldsList-from_slice}
use Rattle.lemmas.proofs.Library.{settled_run}
use Rattle.kept.specs.Kept.{list_of}
use Rattle.own.specs.Settings.{settings_of}
use Rattle.plain.specs.Request.{matches_us}
use Rattle.matching.proofs.is_named.Goals as goal

pub returns : goal.returns
returns c = settled_run true (matches_us (settings_of c.args.o)) _ _ _ c.any.ensures.ran (YieldsList-from_slice (list_of c.args.ts) cc) (λ x b q k. search (rules, tests))
