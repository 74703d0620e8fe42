use mathlib.Core.Path.{◌∙◌}
use Rattle.std.proofs.Common.{rules, tests}
use Rattle.std.proofs.lemmas.Iterator.{YieldsList-from_slice}
use Rattle.std.proofs.lemmas.List.{take_rest}
use Rattle.plain.specs.Table.{instance_deadline}
use Rattle.row.specs.Meaning.{instance_of}
use Rattle.first.specs.Spare.{dead}
use Rattle.first.proofs.Library.{position_run, rest_some, rest_none}
use Rattle.find.proofs.find_spare.Goals as goal

pub returns-in_err-i : goal.returns-in_err-i
returns-in_err-i c =
    c.from_residual-in_err-i.ensures
    ∙ rest_none instance_of (dead instance_deadline c.args.t) c.args.rows.now c.args.from c.in_ok-rest.rest.now c.position.result (search (rules, take_rest))
    (position_run instance_of (dead instance_deadline c.args.t) _ _ _ c.position.ensures.ran (YieldsList-from_slice _ cc) (λ x b q k. search (rules, tests))) c.in_err-i.was

pub returns : goal.returns
returns c =
    rest_some instance_of (dead instance_deadline c.args.t) c.args.rows.now c.args.from c.in_ok-rest.rest.now c.position.result (search (rules, take_rest))
    (position_run instance_of (dead instance_deadline c.args.t) _ _ _ c.position.ensures.ran (YieldsList-from_slice _ cc) (λ x b q k. search (rules, tests))) _ c.in_ok-i.was
