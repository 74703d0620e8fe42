use Rattle.place.proofs.Laws.{route_become, route_new, route_full, route_none}
use Rattle.place.proofs.place_route.Goals as goal

pub returns-then-not-routed : goal.returns-then-not-routed
returns-then-not-routed c = rw c.if-not-routed.true (route_none c.args.routes.now c.args.t c.args.at)

pub returns-in_err-hop-in-None : goal.returns-in_err-hop-in-None
returns-in_err-hop-in-None c =
    let s = c.find_spare_route in
    rw (c.if-not-routed.false, c.in-None.is, c.from_residual.ensures) (route_full c.args.routes.now c.args.t s.result s.ensures c.in_err-hop-in-None.was)

pub returns-in-Some : goal.returns-in-Some
returns-in-Some c =
    let k = c.in-Some in
    rw (c.if-not-routed.false, k.is) (route_become c.args.routes.now c.args.t k.live (rw k.is at c.requires.within) (rw k.is at c.requires.lives))

pub returns-in_ok-hop-in-None : goal.returns-in_ok-hop-in-None
returns-in_ok-hop-in-None c =
    let s = c.find_spare_route in
    let k = c.in_ok-hop-in-None in
    rw (c.if-not-routed.false, c.in-None.is) (route_new c.args.routes.now c.args.t s.result s.ensures k.hop k.was)
