use Rattle.std.proofs.Common.{◌∙◌}
use Rattle.key.proofs.Plain.{rows_twins}
use Rattle.twins.proofs.has_twins.Goals as goal

pub returns : goal.returns
returns c = c.has_pair.ensures ∙ rows_twins c.args.clock c.args.rows.now
