use borrow.Author.Tests.{eqb-true}
use borrow.Author.Rules.{rules}
use Rattle.message.specs.Message.{row_found}
use Rattle.search.specs.Seen.{request_seen}
use Rattle.search.proofs.Laws.{request_ask, hit, miss, hit_within, hit_live, hit_kind, live_hit}
use Rattle.search.proofs.search_request.Goals as goal

pub returns-in_err-at-clause-found : goal.returns-in_err-at-clause-found
unfolding row_found request_seen
returns-in_err-at-clause-found c =
    rw c.from_residual.ensures (miss (request_ask c.args.t c.args.instance c.args.dodagid) _ c.find_request.ensures c.in_err-at.was, search rules)

pub returns-clause-found : goal.returns-clause-found
unfolding row_found request_seen
returns-clause-found c =
    let ask = request_ask c.args.t c.args.instance c.args.dodagid in
    (hit ask _ c.find_request.ensures c.in_ok-at.was _, eqb-true _ 1 (hit_kind ask _ c.find_request.ensures c.in_ok-at.was _))

pub returns-clause-here : goal.returns-clause-here
returns-clause-here c =
    let ask = request_ask c.args.t c.args.instance c.args.dodagid in
    live_hit _ (hit_within ask _ c.find_request.ensures c.in_ok-at.was) (hit_live ask _ c.find_request.ensures c.in_ok-at.was)
