use mathlib.Core.Bool.{true}
use Rattle.std.proofs.Common.{rules, tests}
use Rattle.std.proofs.lemmas.Iterator.{YieldsList-from_slice}
use Rattle.lemmas.proofs.Library.{settled_run}
use Rattle.own.specs.Settings.{settings_of}
use Rattle.plain.specs.Request.{ours}
use Rattle.loops.proofs.has_ours.Goals as goal

pub returns : goal.returns
returns c = settled_run true (ours (settings_of c.args.o)) _ _ _ c.any.ensures.ran (YieldsList-from_slice c.args.vector.now cc) (λ x b q k. search (rules, tests))
