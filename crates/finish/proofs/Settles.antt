-- A call is ready to be finished, and its decision settled, by the numbers of what was found.
use Prim.Native.Nat.{ℕ, ◌<◌, ◌≤◌}
use mathlib.Core.Path.{◌≡◌, refl, sym, ap, ◌∙◌}
use mathlib.Core.Bool.{true}
use mathlib.Core.List.{List}
use lib.ListN.{length, get_or}
use Rattle.std.specs.Prelude as core
use Rattle.std.specs.Prelude.{Some, None, IfSome}
use Rattle.std.specs.Option.{option_map}
use Rattle.plain.specs.Address.{Address}
use Rattle.plain.specs.Given.{Settings, Instance, Route}
use Rattle.plain.specs.Table.{Change, put, live, instance_deadline, route_deadline}
use Rattle.plain.specs.Request.{Accepted}
use Rattle.row.specs.Meaning.{instance_of, route_of, route_in, no_row, no_route}
use Rattle.row.specs.Fields.{reply_in}
use Rattle.row.specs.Change.{with_second, with_route}
use Rattle.row.specs.declared.InstanceRow.{InstanceRow}
use Rattle.row.specs.declared.RouteRow.{RouteRow}
use Rattle.message.specs.Message.{number_of, numbered, route_found}
use Rattle.message.specs.declared.Found.{Found}
use Rattle.message.specs.declared.Live.{Live}
use Rattle.decision.specs.Decision.{Fits, Posts, Stores, instance_meant, instances_by, routes_by}
use Rattle.decision.specs.declared.Decided.{Decided}
use Rattle.decision.specs.declared.Post.{Post}
use Rattle.place.specs.Places as place
use Rattle.place.specs.Places.{hop_change}
use Rattle.finish.specs.Gives.{Ready, Settled}

put_number : {R B : Type 0} (kind : R → B) (f : core.Option (Found R)) (r : Instance)
    → put (numbered kind f) r ≡ put (place.numbered (option_map number_of f)) r
put_number kind None r = refl
put_number kind (Some f) r = refl

hop_number : (g : core.Option (Found RouteRow)) (r : core.Option Route) → with_route (route_found g) r ≡ hop_change (option_map number_of g) r
unfolding with_route route_found
hop_number g None = refl
hop_number None (Some r) = refl
hop_number (Some g) (Some r) = refl

-- what holds of the number of what was found
at_number : {R : Type 0} (P : ℕ → Type 0) (f : core.Option (Found R)) → IfSome f (λ x. P x.at) → IfSome (option_map number_of f) P
at_number P None h = h
at_number P (Some f) h = h

module _ (f : core.Option (Found InstanceRow)) (g : core.Option (Found RouteRow)) (l : Live)
    (el : l ≡ record { row = option_map number_of f; route = option_map number_of g }) where
  pub settled : {B : Type 0} (kind : InstanceRow → B) (x : Settings) (vector : List Address) (acc : Accepted) (d : Decided) (there back : Post)
      → Stores acc (numbered kind f) (route_found g) d
      → Posts x vector acc.sent.forward acc.sent.forward_to there
      → Posts x vector acc.sent.reply acc.sent.reply_to back
      → Settled x vector acc l d there back
  unfolding instances_by routes_by
  settled kind x vector acc d there back w pf pr =
      rw el
      (record {
        forward = pf;
        reply = pr;
        own = w.own;
        instances =
            sym (ap (λ (q : Change Instance). with_second q (option_map reply_in d.second)) (put_number kind f (instance_meant d.row))) ∙ w.instances;
        routes = sym (hop_number g (option_map route_in d.route)) ∙ w.routes;
        row = w.row;
        route = w.route;
      })

  -- what is live is ready to be written over
  pub ready : (x : Settings) (t : ℕ) (rows : List InstanceRow) (routes : List RouteRow) (forward reply : List ℕ) (vector : List Address) (there back : Post)
      → IfSome f (λ x. x.at < length rows) → IfSome f (λ x. live instance_deadline t (instance_of (get_or rows x.at no_row)) ≡ true)
      → IfSome g (λ x. x.at < length routes) → IfSome g (λ x. live route_deadline t (route_of (get_or routes x.at no_route)) ≡ true)
      → 1236 ≤ length forward → 1236 ≤ length reply → length vector ≡ 16
      → Fits x there vector → Fits x back vector → Ready x t rows routes forward reply vector there back l
  ready x t rows routes forward reply vector there back hf lf hg lg p q n ff fr =
      rw el
      (record {
        row = record {
          within = at_number (λ k. k < length rows) f hf;
          lives = at_number (λ k. live instance_deadline t (instance_of (get_or rows k no_row)) ≡ true) f lf;
        };
        route = record {
          within = at_number (λ k. k < length routes) g hg;
          lives = at_number (λ k. live route_deadline t (route_of (get_or routes k no_route)) ≡ true) g lg;
        };
        forward_room = p;
        reply_room = q;
        places = n;
        forward_fits = ff;
        reply_fits = fr;
      })
