-- From what searches give to what the rules decide of a request.
use Prim.Native.Nat.{ℕ, ◌≤◌}
use mathlib.Core.Path.{◌≡◌, refl, sym, ◌∙◌}
use mathlib.Core.Bool.{Bool, true, false, ◌&&◌}
use mathlib.Core.List.{List, [], map}
use mathlib.Core.Option.{Option}
use Rattle.std.specs.Prelude as core
use Rattle.std.specs.Prelude.{Some, None, IfSome}
use Rattle.lemmas.specs.Optional.{of_option}
use native.Mathlib.Omega.{arith}
use lib.Dec.{leb}
use lib.ListN.{length}
use borrow.Author.Tests.{leb-true}
use Rattle.lemmas.proofs.Choice.{and_left}
use Rattle.plain.specs.Lists.{all}
use Rattle.plain.specs.Address.{Address}
use Rattle.plain.specs.Given.{Settings, Received, RequestRow, Instance, Route}
use Rattle.plain.specs.Table.{Numbered}
use Rattle.plain.specs.Octets.{Message, most_targets}
use Rattle.plain.specs.Answers.{View, view_of, short_prefix, good_if, good_instance, all_good, good_deadline, answer_of}
use Rattle.plain.specs.Request.{Asked, are_targ_node, asked_with, asked, forwards, replies_now, request_row, forwarded_request, request_lines, accept_request, free_delta, delta_taken, with_reply_row}
use Rattle.row.specs.Meaning.{instance_of, request_of, targets_of, no_row}
use Rattle.row.proofs.Laws.{length_targets}
use Rattle.lemmas.proofs.Walk.{all_at, all_map}
use Rattle.row.specs.declared.InstanceRow.{InstanceRow}
use Rattle.row.specs.declared.RouteRow.{RouteRow}
use Rattle.own.specs.Settings.{settings_of}
use Rattle.own.specs.declared.Own.{Own}
use Rattle.message.specs.Message.{message_in, received_by, request_found, route_found}
use Rattle.message.specs.declared.Parsed.{Parsed}
use Rattle.message.specs.declared.Link.{Link}
use Rattle.message.specs.declared.Found.{Found}
use Rattle.search.specs.Seen.{request_seen, LiveRow}
use Rattle.search_route.specs.Seen.{route_seen}
use Rattle.delta.specs.Delta.{delta_seen}
use Rattle.finish.specs.Gives.{state_of}

-- ---- a found row has at most 8 targets

pub row_few : (rows : List InstanceRow) (t : ℕ) (f : core.Option (Found InstanceRow)) → all_good good_instance (map instance_of rows) ≡ true
    → LiveRow rows t f → IfSome f (λ x. x.row.kind ≡ 1) → IfSome f (λ x. x.row.count ≤ 8)
unfolding instance_of good_instance request_of
row_few rows t None g l k = k
row_few rows t (Some f) g l k =
    let a = all_at (λ r. good_if good_instance (instance_of r)) no_row rows f.at l.within (sym (all_map (good_if good_instance) instance_of rows) ∙ g) in
    let b : good_if good_instance (instance_of f.row) ≡ true = rw l.stands a in
    let c : good_instance (Instance.request (request_of f.row)) ≡ true = rw k at b in
    let ts = targets_of f.row.count f.row.targets in
    let d =
    and_left (leb (length ts) most_targets) (all short_prefix ts)
    (and_left (leb (length ts) most_targets && all short_prefix ts) (good_deadline (request_of f.row).deadline) c) in
    omega (arith, leb-true (length ts) most_targets d, length_targets f.row.count f.row.targets)

-- ---- the facts of a request, from what was found

-- Facts from which a request has one answer and one outcome.
pub record Alike (x : Settings) (own t : ℕ) (c : Received) (m : Message) (a b : Asked) : Type 0 where
  pub answers : answer_of (request_lines x c m a) ≡ answer_of (request_lines x c m b)
  pub outcomes : accept_request x own t c m a ≡ accept_request x own t c m b

alike_same : (x : Settings) (own t : ℕ) (c : Received) (m : Message) (a b : Asked) → a ≡ b → Alike x own t c m a b
alike_same x own t c m a b e = rw e (record { answers = refl; outcomes = refl })

-- where we are not TargNode, nothing rests on the Delta
not_targ : (x : Settings) (own t : ℕ) (c : Received) (m : Message) (row : Option (Numbered RequestRow)) (route : Option (Numbered Route))
    (d e : Option ℕ) → are_targ_node x m ≡ false → Alike x own t c m (asked_with x c m row route d) (asked_with x c m row route e)
unfolding asked_with request_lines answer_of accept_request replies_now forwards with_reply_row request_row forwarded_request
not_targ x own t c m row route d e n = rw n (record { answers = refl; outcomes = refl })

module _ (clock seq t : ℕ) (rows : List InstanceRow) (routes : List RouteRow) (o : Own) (k : Link) (p : Parsed) (vector : List Address)
    (f : core.Option (Found InstanceRow)) (g : core.Option (Found RouteRow)) (free : core.Option ℕ)
    (sf : request_found f ≡ request_seen clock rows t p.base.instance p.base.dodagid)
    (sg : route_found g ≡ route_seen clock routes t o.receiving p.base.dodagid p.base.instance) where
  abbrev xs : Settings
  xs = settings_of o

  abbrev view : View
  view = view_of (state_of clock seq rows routes)

  asked_with_lem : (d : Option ℕ) → d ≡ delta_seen clock rows t p.base.instance o.receiving
      → asked_with xs (received_by k []) (message_in p vector) (request_found f) (route_found g) d ≡ asked xs view t (received_by k []) (message_in p vector)
  unfolding asked request_seen route_seen delta_seen free_delta delta_taken message_in
  asked_with_lem d sd = rw (sf, sg, sd)

  pub asked_is : (targ : Bool) → targ ≡ are_targ_node xs (message_in p vector)
      → (targ ≡ true → of_option free ≡ delta_seen clock rows t p.base.instance o.receiving)
      → Alike xs seq t (received_by k []) (message_in p vector)
      (asked_with xs (received_by k []) (message_in p vector) (request_found f) (route_found g) (of_option free))
      (asked xs view t (received_by k []) (message_in p vector))
  asked_is true et sd = alike_same xs seq t (received_by k []) (message_in p vector) _ _ (asked_with_lem (of_option free) (sd refl))
  asked_is false et sd =
      rw (← asked_with_lem (delta_seen clock rows t p.base.instance o.receiving) refl)
      (not_targ xs seq t (received_by k []) (message_in p vector) (request_found f) (route_found g) (of_option free)
      (delta_seen clock rows t p.base.instance o.receiving) (sym et))
