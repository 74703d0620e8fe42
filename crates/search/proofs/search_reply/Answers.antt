use Rattle.message.specs.Message.{row_found}
use Rattle.search.specs.Seen.{reply_seen}
use Rattle.search.proofs.Laws.{reply_ask, hit, miss, hit_within, hit_live, live_hit}
use Rattle.search.proofs.search_reply.Goals as goal

pub returns-in_err-at-clause-found : goal.returns-in_err-at-clause-found
unfolding row_found reply_seen
returns-in_err-at-clause-found c =
    rw c.from_residual.ensures (miss (reply_ask c.args.t c.args.instance c.args.dodagid) _ c.find_reply.ensures c.in_err-at.was)

pub returns-clause-found : goal.returns-clause-found
unfolding row_found reply_seen
returns-clause-found c = hit (reply_ask c.args.t c.args.instance c.args.dodagid) _ c.find_reply.ensures c.in_ok-at.was _

pub returns-clause-here : goal.returns-clause-here
returns-clause-here c =
    let ask = reply_ask c.args.t c.args.instance c.args.dodagid in
    live_hit _ (hit_within ask _ c.find_reply.ensures c.in_ok-at.was) (hit_live ask _ c.find_reply.ensures c.in_ok-at.was)
