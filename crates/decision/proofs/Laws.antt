-- The record that is written for a row means that row, and is written again for it.
use mathlib.Core.Path.{◌≡◌, refl, ap}
use mathlib.Core.Bool.{Bool, true, false, cond}
use mathlib.Core.Option.{Option, some, none}
use Rattle.std.specs.Prelude.{Some, None, option_map, IfSome}
use Rattle.plain.specs.Given.{Instance, Route}
use Rattle.row.specs.Meaning.{instance_of, route_of, route_in}
use Rattle.row.specs.Record.{request_record, reply_record, route_record}
use Rattle.row.proofs.Laws.{request_back, reply_back, route_back}
use Rattle.decision.specs.Decision.{instance_meant, record_of}

abbrev some_row : {A : Type 0} → A → Option A → A
some_row d none = d
some_row d (some a) = a

pub meant : (i : Instance) → instance_meant (record_of i) ≡ i
unfolding instance_meant instance_of record_of request_record reply_record
meant (Instance.request r) = ap (some_row (Instance.request r)) (request_back r)
meant (Instance.reply r) = ap (some_row (Instance.reply r)) (reply_back r)

pub again : (i : Instance) → record_of (instance_meant (record_of i)) ≡ record_of i
again i = ap record_of (meant i)

pub route_meant : (r : Route) → route_in (route_record r) ≡ r
unfolding route_of route_in route_record
route_meant r = ap (some_row r) (route_back r)

-- the routes' records mean these, where a test says whether there is one
pub routes_meant : (b : Bool) (r : Route) → option_map route_in (cond b (Some (route_record r)) None) ≡ cond b (Some r) None
routes_meant true r = ap Some (route_meant r)
routes_meant false r = refl

-- and are written again
pub routes_again : (b : Bool) (r : Route) → IfSome (cond b (Some (route_record r)) None) (λ r. route_record (route_in r) ≡ r)
routes_again true r = ap route_record (route_meant r)
routes_again false r = tt
