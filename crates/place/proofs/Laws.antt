-- Each way in which an accepted call's rows are placed.
use Prim.Native.Nat.{ℕ, ◌+◌, ◌<◌, ◌≤◌}
use mathlib.Core.Path.{◌≡◌, refl, sym, ◌∙◌}
use mathlib.Core.Bool.{Bool, true, false}
use mathlib.Core.List.{List, map}
use mathlib.Core.Option.{some}
use native.Mathlib.Omega.{arith}
use lib.ListN.{length, get_or, set}
use borrow.Author.Tests.{lt-ltb, le-ltb}
use Rattle.std.specs.Prelude as core
use Rattle.std.specs.Prelude.{Some, None, is_some, IfSome}
use Rattle.plain.specs.Given.{ReplyRow, Instance, Route}
use Rattle.plain.specs.Table.{live, has_room, placed, instance_deadline, route_deadline}
use Rattle.plain.specs.Request.{with_reply_row}
use Rattle.lemmas.proofs.Choice.{true_false}
use Rattle.row.specs.Meaning.{instance_of, route_of, no_row, no_route}
use Rattle.row.specs.declared.InstanceRow.{InstanceRow}
use Rattle.row.specs.declared.RouteRow.{RouteRow}
use Rattle.place.specs.declared.Places as P
use Rattle.place.specs.declared.RoutePlace.{RoutePlace}
use Rattle.first.specs.First.{first, first_from, found_at, found_from}
use Rattle.first.specs.Spare.{dead}
use Rattle.first.proofs.Library.{found_first, found_within, found_past, from_first, from_within, from_past}
use Rattle.first.proofs.Room as room
use Rattle.first.proofs.Room.{room_none}
use Rattle.first.proofs.Store.{store_none, store_become, store_new, store_new_two, store_become_new}
use Rattle.row.specs.Change.{with_second, with_route}
use Rattle.place.specs.Places.{set_at, row_change, hop_change, Placed, RoutePlaced}

module _ (rows : List InstanceRow) (t : ℕ) where
  -- `r` is what a search for a spare row answers, from the start on
  module _ (r : core.Option ℕ) (e : r ≡ found_from (dead instance_deadline t) 0 (map instance_of rows)) where
    spare_first : (k : ℕ) → r ≡ Some k → k ≡ first (dead instance_deadline t) (map instance_of rows)
    spare_first k g = let a = from_first instance_of (dead instance_deadline t) rows r 0 e k g in omega (arith, a)

    spare_within : (k : ℕ) → r ≡ Some k → k < length rows
    spare_within = from_within instance_of (dead instance_deadline t) rows r 0 e

    spare_past : r ≡ None → length rows ≤ first (dead instance_deadline t) (map instance_of rows)
    spare_past g = let a = from_past instance_of (dead instance_deadline t) rows r 0 e g in omega (arith, a)

  -- what is placed, from what holds without a reply row, and with one
  module _ (at : core.Option ℕ) where
    room_one : (p : core.Option P.Places) → ((r : Instance) → is_some p ≡ has_room instance_deadline t (row_change at r None) (map instance_of rows))
        → (r : Instance) (s : core.Option ReplyRow) → is_some s ≡ false
        → is_some p ≡ has_room instance_deadline t (row_change at r s) (map instance_of rows)
    room_one p h r None e = h r
    room_one p h r (Some s) e = true_false e

    room_two : (p : core.Option P.Places)
        → ((r : Instance) (s : ReplyRow) → is_some p ≡ has_room instance_deadline t (row_change at r (Some s)) (map instance_of rows))
        → (r : Instance) (s : core.Option ReplyRow) → is_some s ≡ true
        → is_some p ≡ has_room instance_deadline t (row_change at r s) (map instance_of rows)
    room_two p h r None e = true_false (sym e)
    room_two p h r (Some s) e = h r s

    stored_one : (j : ℕ) → ((one : InstanceRow) (r : Instance) → instance_of one ≡ some r
        → map instance_of (set rows j one) ≡ placed instance_deadline t (row_change at r None) (map instance_of rows))
        → (one : InstanceRow) (two : core.Option InstanceRow) (r : Instance) (s : core.Option ReplyRow) → is_some s ≡ false → is_some two ≡ false
        → instance_of one ≡ some r → IfSome two (λ w. IfSome s (λ z. instance_of w ≡ some (Instance.reply z)))
        → map instance_of (set rows j one) ≡ placed instance_deadline t (row_change at r s) (map instance_of rows)
    stored_one j h one two r None e f a b = h one r a
    stored_one j h one two r (Some s) e f a b = true_false e

    stored_two : (j n : ℕ)
        → ((one two : InstanceRow) (r : Instance) (s : ReplyRow) → instance_of one ≡ some r → instance_of two ≡ some (Instance.reply s)
        → map instance_of (set (set rows j one) n two) ≡ placed instance_deadline t (row_change at r (Some s)) (map instance_of rows))
        → (one : InstanceRow) (two : core.Option InstanceRow) (r : Instance) (s : core.Option ReplyRow) → is_some s ≡ true → is_some two ≡ true
        → instance_of one ≡ some r → IfSome two (λ w. IfSome s (λ z. instance_of w ≡ some (Instance.reply z)))
        → map instance_of (set_at (set rows j one) (Some n) two) ≡ placed instance_deadline t (row_change at r s) (map instance_of rows)
    stored_two j n h one (Some two) r (Some s) e f a b = h one two r s a b
    stored_two j n h one (Some two) r None e f a b = true_false (sym e)
    stored_two j n h one None r s e f a b = true_false (sym f)

  -- in the place of a live row
  module _ (k : ℕ) (h : k < length rows) (l : live instance_deadline t (instance_of (get_or rows k no_row)) ≡ true) where
    pub become_one : Placed rows t (Some k) false (Some (record { first = k; second = None }))
    unfolding with_second
    become_one = record {
      room = room_one (Some k) (Some (record { first = k; second = None }))
          (λ r. sym (room_none instance_deadline t instance_of rows (row_change (Some k) r None) refl));
      stored = stored_one (Some k) k
          (λ one r a. store_become instance_of instance_deadline t rows no_row {B = ℕ} (record { number = k; row = 0 }) k one r refl h l a);
      second = λ o. refl;
    }

    -- with a reply row behind it
    module _ (r : core.Option ℕ) (e : r ≡ found_from (dead instance_deadline t) 0 (map instance_of rows)) where
      pub become_two : (n : ℕ) → r ≡ Some n → Placed rows t (Some k) true (Some (record { first = k; second = Some n }))
      unfolding with_second with_reply_row
      become_two n g = record {
        room = room_two (Some k) (Some (record { first = k; second = Some n }))
            (λ c s. sym (room.room_one instance_deadline t instance_of rows (row_change (Some k) c (Some s)) refl n (spare_first r e n g)
            ∙ lt-ltb n (length rows) (spare_within r e n g)));
        stored = stored_two (Some k) k n
            (λ one two c s a b. store_become_new instance_of instance_deadline t rows no_row n k one two c (Instance.reply s) h l (spare_first r e n g) (spare_within r e n g) a b);
        second = λ o. true_false o;
      }

      pub become_none : r ≡ None → Placed rows t (Some k) true None
      unfolding with_second with_reply_row
      become_none g = record {
        room = room_two (Some k) None (λ c s. sym (room.room_one instance_deadline t instance_of rows (row_change (Some k) c (Some s)) refl _ refl
            ∙ le-ltb _ (length rows) (spare_past r e g)));
        stored = tt;
        second = tt;
      }

  -- a new row
  module _ (r : core.Option ℕ) (e : r ≡ found_from (dead instance_deadline t) 0 (map instance_of rows)) where
    -- no row that is not live
    pub new_none : r ≡ None → (replies : Bool) → Placed rows t None replies None
    unfolding with_second with_reply_row
    new_none g false = record {
      room = room_one None None (λ c. sym (room.room_one instance_deadline t instance_of rows (row_change None c None) refl _ refl
          ∙ le-ltb _ (length rows) (spare_past r e g)));
      stored = tt;
      second = tt;
    }
    new_none g true = record {
      room = room_two None None
          (λ c s. let p = spare_past r e g in sym (room.room_two instance_deadline t instance_of rows (row_change None c (Some s)) refl _ _ refl refl
          ∙ le-ltb (first_from (dead instance_deadline t) (first (dead instance_deadline t) (map instance_of rows) + 1) (map instance_of rows)) (length rows) (omega (arith, p))));
      stored = tt;
      second = tt;
    }

    module _ (j : ℕ) (g : r ≡ Some j) where
      pub new_one : Placed rows t None false (Some (record { first = j; second = None }))
      unfolding with_second
      new_one = record {
        room = room_one None (Some (record { first = j; second = None }))
            (λ c. sym (room.room_one instance_deadline t instance_of rows (row_change None c None) refl j (spare_first r e j g)
            ∙ lt-ltb j (length rows) (spare_within r e j g)));
        stored = stored_one None j
            (λ one c a. store_new instance_of instance_deadline t rows no_row j one c (spare_first r e j g) (spare_within r e j g) a);
        second = λ o. refl;
      }

      -- with a reply row behind it
      module _ (q : core.Option ℕ) (f : q ≡ found_from (dead instance_deadline t) (j + 1) (map instance_of rows)) where
        pub new_two : (n : ℕ) → q ≡ Some n → Placed rows t None true (Some (record { first = j; second = Some n }))
        unfolding with_second with_reply_row
        new_two n p =
            let a = from_first instance_of (dead instance_deadline t) rows q (j + 1) f n p in
            let b = from_within instance_of (dead instance_deadline t) rows q (j + 1) f n p in
            record {
              room = room_two None (Some (record { first = j; second = Some n }))
                  (λ c s. sym (room.room_two instance_deadline t instance_of rows (row_change None c (Some s)) refl j n (spare_first r e j g) a
                  ∙ lt-ltb n (length rows) b));
              stored = stored_two None j n
                  (λ one two c s u v. store_new_two instance_of instance_deadline t rows no_row j n one two c (Instance.reply s) (spare_first r e j g) a b u v);
              second = λ o. true_false o;
            }

        pub new_full : q ≡ None → Placed rows t None true None
        unfolding with_second with_reply_row
        new_full p = record {
          room = room_two None None
              (λ c s. sym (room.room_two instance_deadline t instance_of rows (row_change None c (Some s)) refl j _ (spare_first r e j g) refl
              ∙ le-ltb _ (length rows) (from_past instance_of (dead instance_deadline t) rows q (j + 1) f p)));
          stored = tt;
          second = tt;
        }

module _ (routes : List RouteRow) (t : ℕ) where
  -- what is placed, from what holds of a route
  module _ (at : core.Option ℕ) where
    room_hop : (p : core.Option RoutePlace) → ((r : Route) → is_some p ≡ has_room route_deadline t (hop_change at (Some r)) (map route_of routes))
        → (r : core.Option Route) → is_some r ≡ true → is_some p ≡ has_room route_deadline t (hop_change at r) (map route_of routes)
    room_hop p h None e = true_false (sym e)
    room_hop p h (Some r) e = h r

    stored_hop : (k : ℕ) → ((new : RouteRow) (r : Route) → route_of new ≡ some r
        → map route_of (set routes k new) ≡ placed route_deadline t (hop_change at (Some r)) (map route_of routes))
        → (new : core.Option RouteRow) (r : core.Option Route) → is_some r ≡ true → is_some new ≡ true
        → IfSome new (λ w. IfSome r (λ z. route_of w ≡ some z))
        → map route_of (set_at routes (Some k) new) ≡ placed route_deadline t (hop_change at r) (map route_of routes)
    stored_hop k h (Some new) (Some r) e f a = h new r a
    stored_hop k h (Some new) None e f a = true_false (sym e)
    stored_hop k h None r e f a = true_false (sym f)

    pub route_none : RoutePlaced routes t false at (Some (record { hop = None }))
    unfolding with_route
    route_none = record { room = room_for; stored = stored_for; unrouted = λ o. refl }
      where
        room_for : (r : core.Option Route) → is_some r ≡ false → true ≡ has_room route_deadline t (hop_change at r) (map route_of routes)
        room_for None e = sym (room_none route_deadline t route_of routes (hop_change at None) refl)
        room_for (Some r) e = true_false e

        stored_for : (new : core.Option RouteRow) (r : core.Option Route) → is_some r ≡ false → is_some new ≡ false
            → IfSome new (λ w. IfSome r (λ z. route_of w ≡ some z))
            → map route_of routes ≡ placed route_deadline t (hop_change at r) (map route_of routes)
        stored_for new None e f a = sym (store_none route_of route_deadline t routes no_route)
        stored_for new (Some r) e f a = true_false e

  pub route_become : (k : ℕ) → k < length routes → live route_deadline t (route_of (get_or routes k no_route)) ≡ true
      → RoutePlaced routes t true (Some k) (Some (record { hop = Some k }))
  unfolding with_route
  route_become k h l = record {
    room = room_hop (Some k) (Some (record { hop = Some k }))
        (λ c. sym (room_none route_deadline t route_of routes (hop_change (Some k) (Some c)) refl));
    stored = stored_hop (Some k) k
        (λ new c a. store_become route_of route_deadline t routes no_route {B = ℕ} (record { number = k; row = 0 }) k new c refl h l a);
    unrouted = λ o. true_false o;
  }

  module _ (r : core.Option ℕ) (e : r ≡ found_at (dead route_deadline t) (map route_of routes)) where
    pub route_new : (k : ℕ) → r ≡ Some k → RoutePlaced routes t true None (Some (record { hop = Some k }))
    unfolding with_route
    route_new k g =
        let a = found_first route_of (dead route_deadline t) routes r e k g in
        let b = found_within route_of (dead route_deadline t) routes r e k g in
        record {
          room = room_hop None (Some (record { hop = Some k }))
              (λ c. sym (room.room_one route_deadline t route_of routes (hop_change None (Some c)) refl k a ∙ lt-ltb k (length routes) b));
          stored = stored_hop None k (λ new c u. store_new route_of route_deadline t routes no_route k new c a b u);
          unrouted = λ o. true_false o;
        }

    pub route_full : r ≡ None → RoutePlaced routes t true None None
    unfolding with_route
    route_full g = record {
      room = room_hop None None (λ c. sym (room.room_one route_deadline t route_of routes (hop_change None (Some c)) refl _ refl
          ∙ le-ltb _ (length routes) (found_past route_of (dead route_deadline t) routes r e g)));
      stored = tt;
      unrouted = tt;
    }
