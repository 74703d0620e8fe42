use Rattle.message.specs.Message.{row_found}
use Rattle.search.specs.Seen.{partner_seen}
use Rattle.search.proofs.Laws.{partner_ask, hit, miss}
use Rattle.search.proofs.search_partner.Goals as goal

pub returns-in_err-at : goal.returns-in_err-at
unfolding row_found partner_seen
returns-in_err-at c =
    rw c.from_residual.ensures (miss (partner_ask c.args.t c.args.instance c.args.dodagid c.args.h) _ c.find_partner.ensures c.in_err-at.was)

pub returns : goal.returns
unfolding row_found partner_seen
returns c = hit (partner_ask c.args.t c.args.instance c.args.dodagid c.args.h) _ c.find_partner.ensures c.in_ok-at.was _
