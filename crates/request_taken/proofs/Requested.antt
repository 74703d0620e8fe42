-- What a request comes to, from what its parts give.
use Prim.Native.Nat.{ℕ, ◌≤◌}
use mathlib.Core.Path.{◌≡◌, refl, ap}
use mathlib.Core.Bool.{true}
use mathlib.Core.List.{List, []}
use Rattle.std.specs.Prelude.{Option, option_map}
use Rattle.lemmas.specs.Optional.{of_option}
use native.Mathlib.Omega.{arith}
use lib.ListN.{length, take}
use Rattle.plain.specs.Address.{Address}
use Rattle.plain.specs.Given.{Settings, Received, State}
use Rattle.plain.specs.Octets.{Message}
use Rattle.plain.specs.Rank.{own_rank}
use Rattle.plain.specs.Answers.{Line, view_of, answer_of}
use Rattle.plain.specs.Request.{Accepted, Asked, asked_with, asked, forwards, request_lines, accept_request}
use Rattle.row.specs.Meaning.{request_of}
use Rattle.row.specs.declared.InstanceRow.{InstanceRow}
use Rattle.row.specs.declared.RouteRow.{RouteRow}
use Rattle.lemmas.specs.Each.{WholeVector}
use Rattle.own.specs.Settings.{settings_of}
use Rattle.own.specs.declared.Own.{Own}
use Rattle.message.specs.Message.{message_in, received_by, number_of, request_found, route_found, row_found}
use Rattle.message.specs.declared.Parsed.{Parsed}
use Rattle.message.specs.declared.Link.{Link}
use Rattle.message.specs.declared.Found.{Found}
use Rattle.decision.specs.Decision.{Posts, Stores}
use Rattle.decision.specs.declared.Decided.{Decided}
use Rattle.decision.specs.declared.Post.{Post}
use Rattle.request.specs.Facts.{asked_of, Sendable, Gathered}
use Rattle.request.specs.Room.{Roomy}
use Rattle.request.specs.declared.RequestFacts.{RequestFacts}
use Rattle.request_answer.proofs.Lines.{rank_fits, has_room}
use Rattle.finish.specs.Gives.{state_of, decision_of, Settled}
use Rattle.message.specs.declared.Live.{Live}
use Rattle.request_taken.specs.Decision.{request_decision}
use Rattle.request_taken.proofs.Laws.{Alike}
use Rattle.finish.proofs.Decides.{settles}

-- What is known of a request when its facts are gathered: what they mean, and that from this it has the answer and the outcome that it has by the
-- tables.
pub record Known (clock seq t : ℕ) (rows : List InstanceRow) (routes : List RouteRow) (o : Own) (k : Link) (p : Parsed) (vector : List Address)
    (f : Option (Found InstanceRow)) (g : Option (Found RouteRow)) (free : Option ℕ) (a : RequestFacts) : Type 0 where
  pub gathered : Gathered (asked_with (settings_of o) (received_by k []) (message_in p vector) (request_found f) (route_found g) (of_option free)) a
  pub found : Alike (settings_of o) seq t (received_by k []) (message_in p vector)
      (asked_with (settings_of o) (received_by k []) (message_in p vector) (request_found f) (route_found g) (of_option free))
      (asked (settings_of o) (view_of (state_of clock seq rows routes)) t (received_by k []) (message_in p vector))

module _ {clock seq t : ℕ} {rows : List InstanceRow} {routes : List RouteRow} {o : Own} {k : Link} {p : Parsed} {vector : List Address}
    {f : Option (Found InstanceRow)} {g : Option (Found RouteRow)} {free : Option ℕ} {a : RequestFacts} (h : Known clock seq t rows routes o k p vector f g free a) where
  abbrev x : Settings
  x = settings_of o

  abbrev s : State
  s = state_of clock seq rows routes

  abbrev c : Received
  c = received_by k []

  abbrev m : Message
  m = message_in p vector

  abbrev pub asking : Asked
  asking = asked_with x c m (request_found f) (route_found g) (of_option free)

  abbrev pub lines : Asked → List Line
  lines = request_lines x c m

  abbrev pub accept : Asked → Accepted
  accept = accept_request x seq t c m

  -- what the rules decide
  pub request_decided : request_decision x s t c m ≡ decision_of (answer_of (lines asking)) (accept asking)
  unfolding request_decision
  request_decided = rw (← h.found.answers, ← h.found.outcomes)

  rank_is : a.rank ≡ own_rank p.base.rank k.increase
  unfolding asked_with asked_of message_in
  rank_is = ap (λ (q : Asked). q.rank) h.gathered.means

  module _ (zero : answer_of (lines (asked_of a)) ≡ 0) where
    pub request_sendable : Sendable a
    request_sendable = record {
      rank = omega (arith, rank_fits x k p vector a zero, rank_is);
      few = h.gathered.few;
      prefixes = h.gathered.prefixes;
      padded = h.gathered.padded;
    }

    pub request_room : p.n ≤ 16 → length o.receiving ≡ 16 → length o.sending ≡ 16 → WholeVector vector → forwards (message_in p []) (asked_of a) ≡ true
        → Roomy x p.discovery.h p.discovery.compr (take p.n vector)
    request_room few er es whole = has_room x k p vector a zero few er es whole

  -- what is stored and sent is the rules'
  pub request_settled : (l : Live) → l ≡ record { row = option_map number_of f; route = option_map number_of g } → (d : Decided) (there back : Post)
      → Stores (accept (asked_of a)) (request_found a.row) (route_found a.route) d
      → Posts x vector (accept (asked_of a)).sent.forward (accept (asked_of a)).sent.forward_to there
      → Posts x vector (accept (asked_of a)).sent.reply (accept (asked_of a)).sent.reply_to back
      → Settled x vector (accept asking) l d there back
  unfolding asked_with asked_of row_found
  request_settled l el d there back w pf pr =
      settles lines accept (asked_of a) asking h.gathered.means (λ (q : Asked). q.row) (λ (q : Asked). q.route) request_of f
      g l el refl refl x vector d there back w pf pr
