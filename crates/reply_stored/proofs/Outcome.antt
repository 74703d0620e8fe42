-- What a reply stores, from its parts.
use Prim.Native.Nat.{ℕ}
use mathlib.Core.Path.{◌≡◌, refl}
use mathlib.Core.Bool.{Bool, true, false, cond}
use Rattle.plain.specs.Given.{Settings, Received, Instance}
use Rattle.plain.specs.Octets.{Message}
use Rattle.std.specs.Prelude.{Option, Some, None}
use Rattle.plain.specs.Reply.{Answered, reply_row, accept_reply}
use Rattle.row.specs.Record.{reply_record, route_record}
use Rattle.row.specs.declared.InstanceRow.{InstanceRow}
use Rattle.row.specs.declared.RouteRow.{RouteRow}
use Rattle.decision.specs.Decision.{Stores, instances_by, routes_by, record_of}
use Rattle.decision.proofs.Laws.{meant, routes_meant, routes_again}
use Rattle.row.specs.Change.{with_second}
use Rattle.row.proofs.Laws.{route_if}
use Rattle.reply_stored.specs.Made.{reply_route}

-- what is there by a test
pub given_if : {A : Type 0} (b : Bool) (o : Option A) (a : A) → b ≡ true → o ≡ Some a → o ≡ cond b (Some a) None
given_if b o a e f = rw (e, f)

pub none_if : {A : Type 0} (b : Bool) (o : Option A) (a : A) → b ≡ false → o ≡ None → o ≡ cond b (Some a) None
none_if b o a e f = rw (e, f)

pub accepts : (x : Settings) (seq t : ℕ) (c : Received) (m : Message) (a : Answered) (row : InstanceRow) (route : Option RouteRow)
    → row ≡ reply_record (reply_row t m a) → route ≡ cond m.discovery.h (Some (route_record (reply_route t c m))) None
    → Stores (accept_reply x seq t c m a) a.row a.route
    (record { row = row; second = None; route = route; seq = seq })
unfolding accept_reply instances_by routes_by with_second record_of reply_route
accepts x seq t c m a row route e f = record {
  own = refl;
  instances = rw (e, meant (Instance.reply (reply_row t m a))) refl;
  routes = rw (f, routes_meant m.discovery.h (reply_route t c m), route_if a.route m.discovery.h (reply_route t c m)) refl;
  row = rw (e, meant (Instance.reply (reply_row t m a))) refl;
  route = rw f (routes_again m.discovery.h (reply_route t c m));
}
