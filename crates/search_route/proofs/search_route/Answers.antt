use Rattle.message.specs.Message.{route_found}
use Rattle.search_route.specs.Seen.{route_seen}
use Rattle.search.proofs.Laws.{hit, miss, hit_within, hit_live}
use Rattle.search_route.proofs.Laws.{route_ask, live_route_hit}
use Rattle.search_route.proofs.search_route.Goals as goal

pub returns-in_err-at-clause-found : goal.returns-in_err-at-clause-found
unfolding route_found route_seen
returns-in_err-at-clause-found c =
    rw c.from_residual.ensures (miss (route_ask c.args.t c.args.source c.args.destination c.args.instance) _ c.find_route.ensures c.in_err-at.was)

pub returns-clause-found : goal.returns-clause-found
unfolding route_found route_seen
returns-clause-found c = hit (route_ask c.args.t c.args.source c.args.destination c.args.instance) _ c.find_route.ensures c.in_ok-at.was _

pub returns-clause-here : goal.returns-clause-here
returns-clause-here c =
    let ask = route_ask c.args.t c.args.source c.args.destination c.args.instance in
    live_route_hit _ (hit_within ask _ c.find_route.ensures c.in_ok-at.was) (hit_live ask _ c.find_route.ensures c.in_ok-at.was)
