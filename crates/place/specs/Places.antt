-- Where an accepted call's rows go, so that the lent tables then mean what the plain node's tables are.
use Rattle.std.specs.Prelude as core
use Rattle.std.specs.Prelude.{ℕ, ◌<◌, ◌≡◌, Bool, true, false, List, map, length, get_or, set, Some, None, is_some, IfSome}
use Rattle.std.proofs.Math.Option.{Option, some, none}
use Rattle.plain.specs.Given.{ReplyRow, Instance, Route}
use Rattle.plain.specs.Table.{Numbered, Change, put, live, has_room, placed, instance_deadline, route_deadline}
use Rattle.row.specs.Meaning.{instance_of, route_of, no_row, no_route}
use Rattle.row.specs.Change.{with_second, with_route}
use Rattle.row.specs.declared.InstanceRow.{InstanceRow}
use Rattle.row.specs.declared.RouteRow.{RouteRow}
use Rattle.place.specs.declared.Places as P
use Rattle.place.specs.declared.RoutePlace.{RoutePlace}

-- where the live row of a call's key was found, it stands there and is live
pub record HasRow (rows : List InstanceRow) (t : ℕ) (at : core.Option ℕ) : Type 0 where
  pub within : IfSome at (λ k. k < length rows)
  pub lives : IfSome at (λ k. live instance_deadline t (instance_of (get_or rows k no_row)) ≡ true)

pub record HasRoute (routes : List RouteRow) (t : ℕ) (at : core.Option ℕ) : Type 0 where
  pub within : IfSome at (λ k. k < length routes)
  pub lives : IfSome at (λ k. live route_deadline t (route_of (get_or routes k no_route)) ≡ true)

-- the number of the live row, if there is one; a change asks no more of it
abbrev pub numbered : core.Option ℕ → Option (Numbered ℕ)
numbered None = none
numbered (Some k) = some (record { number = k; row = 0 })

-- a row in the place of the live one, else new, and a reply row behind it where there is one
abbrev pub row_change : core.Option ℕ → Instance → core.Option ReplyRow → Change Instance
row_change at r s = with_second (put (numbered at) r) s

abbrev pub hop_change : core.Option ℕ → core.Option Route → Change Route
hop_change at r = with_route (numbered at) r

-- a record stored at a place, where there are both
abbrev pub set_at : {A : Type 0} → List A → core.Option ℕ → core.Option A → List A
set_at xs None x = xs
set_at xs (Some k) None = xs
set_at xs (Some k) (Some x) = set xs k x

-- 17 is asked by whether there are places; storing the records at these is what the rules do to the table
pub record Placed (rows : List InstanceRow) (t : ℕ) (at : core.Option ℕ) (replies : Bool) (p : core.Option P.Places) : Type 0 where
  pub room : (r : Instance) (s : core.Option ReplyRow) → is_some s ≡ replies
      → is_some p ≡ has_room instance_deadline t (row_change at r s) (map instance_of rows)
  pub stored : IfSome p (λ q. (one : InstanceRow) (two : core.Option InstanceRow) (r : Instance) (s : core.Option ReplyRow)
      → is_some s ≡ replies → is_some two ≡ replies
      → instance_of one ≡ some r → IfSome two (λ w. IfSome s (λ z. instance_of w ≡ some (Instance.reply z)))
      → map instance_of (set_at (set rows q.first one) q.second two)
      ≡ placed instance_deadline t (row_change at r s) (map instance_of rows))
  pub second : IfSome p (λ q. replies ≡ false → q.second ≡ None)

pub record RoutePlaced (routes : List RouteRow) (t : ℕ) (routed : Bool) (at : core.Option ℕ) (p : core.Option RoutePlace) : Type 0 where
  pub room : (r : core.Option Route) → is_some r ≡ routed
      → is_some p ≡ has_room route_deadline t (hop_change at r) (map route_of routes)
  pub stored : IfSome p (λ q. (new : core.Option RouteRow) (r : core.Option Route)
      → is_some r ≡ routed → is_some new ≡ routed → IfSome new (λ w. IfSome r (λ z. route_of w ≡ some z))
      → map route_of (set_at routes q.hop new) ≡ placed route_deadline t (hop_change at r) (map route_of routes))
  pub unrouted : IfSome p (λ q. routed ≡ false → q.hop ≡ None)
