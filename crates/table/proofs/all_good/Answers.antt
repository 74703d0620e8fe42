use mathlib.Core.Bool.{false}
use mathlib.Core.Path.{◌∙◌, sym}
use Rattle.std.proofs.Common.{rules, tests}
use Rattle.std.proofs.lemmas.Iterator.{YieldsList-from_slice}
use Rattle.plain.specs.Answers.{good_if, good_instance}
use Rattle.row.specs.Meaning.{instance_of}
use Rattle.lemmas.proofs.Library.{settled_run}
use Rattle.lemmas.proofs.Walk.{all_map}
use Rattle.table.proofs.all_good.Goals as goal

pub returns : goal.returns
returns c =
    settled_run false (λ r. good_if good_instance (instance_of r)) _ _ _ c.all.ensures.ran (YieldsList-from_slice c.args.rows.now cc) (λ x b q k. search (rules, tests))
    ∙ sym (all_map (good_if good_instance) instance_of c.args.rows.now)
