use Rattle.std.proofs.Common.{rules, tests}
use Rattle.std.proofs.lemmas.Iterator.{YieldsList-from_slice}
use Rattle.row.specs.Meaning.{instance_of}
use Rattle.partner.specs.Partner.{partner_here}
use Rattle.first.proofs.Library.{position_run}
use Rattle.partner.proofs.find_partner.Goals as goal

pub returns : goal.returns
returns c =
    position_run instance_of (partner_here c.args.t c.args.instance c.args.dodagid c.args.h) _ _ _ c.position.ensures.ran
    (YieldsList-from_slice c.args.rows.now cc) (λ x b q k. search (rules, tests))
