-- What the rules see of the lent table of routes, live at the clock: the live route of a key at a call's time t.
use Rattle.std.specs.Prelude.{ℕ, ◌<◌, ◌≡◌, true, List, [], length, get_or, IfSome}
use Rattle.std.specs.Prelude as core
use Rattle.std.proofs.Math.Option.{Option}
use Rattle.plain.specs.Address.{Address}
use Rattle.plain.specs.Given.{Route}
use Rattle.plain.specs.Table.{Numbered, live, route_deadline}
use Rattle.plain.specs.Answers.{live_route}
use Rattle.row.specs.Meaning.{route_of, no_route}
use Rattle.row.specs.declared.RouteRow.{RouteRow}
use Rattle.message.specs.declared.Found.{Found}
use Rattle.search.specs.Seen.{seen_at}

unfoldable pub route_seen : ℕ → List RouteRow → ℕ → Address → Address → ℕ → Option (Numbered Route)
route_seen clock routes t source destination instance = live_route (seen_at clock [] routes) t source destination instance

-- where a route was found, a live one stands
pub record LiveRoute (routes : List RouteRow) (t : ℕ) (f : core.Option (Found RouteRow)) : Type 0 where
  pub within : IfSome f (λ x. x.at < length routes)
  pub lives : IfSome f (λ x. live route_deadline t (route_of (get_or routes x.at no_route)) ≡ true)
