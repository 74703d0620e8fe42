-- What a reply with a partner comes to, from what its parts give.
use Prim.Native.Nat.{ℕ, ◌≤◌}
use mathlib.Core.Path.{◌≡◌, refl, ◌∙◌}
use mathlib.Core.Bool.{false}
use mathlib.Core.List.{List, []}
use Rattle.std.specs.Prelude.{Option, option_map}
use Rattle.plain.specs.Address.{Address}
use Rattle.plain.specs.Given.{Settings, Received, RequestRow, State, Destination}
use Rattle.plain.specs.Octets.{Message}
use Rattle.plain.specs.Answers.{Line, view_of, answer_of}
use Rattle.plain.specs.Request.{Accepted}
use Rattle.plain.specs.Reply.{Answered, answered_with, answered, reply_lines, reply_sent, accept_reply}
use Rattle.row.specs.Meaning.{request_of, reply_of}
use Rattle.row.specs.declared.InstanceRow.{InstanceRow}
use Rattle.row.specs.declared.RouteRow.{RouteRow}
use Rattle.own.specs.Settings.{settings_of}
use Rattle.own.specs.declared.Own.{Own}
use Rattle.message.specs.Message.{message_in, received_by, reply_found, route_found, row_found, number_of}
use Rattle.message.specs.declared.Parsed.{Parsed}
use Rattle.message.specs.declared.Link.{Link}
use Rattle.message.specs.declared.Found.{Found}
use Rattle.decision.specs.Decision.{Posts, Stores}
use Rattle.decision.specs.declared.Decided.{Decided}
use Rattle.decision.specs.declared.Post.{Post}
use Rattle.reply.specs.Facts.{answered_of, is_full, Gathered}
use Rattle.reply.specs.declared.ReplyFacts.{ReplyFacts}
use Rattle.reply_answer.proofs.Laws as reply
use Rattle.finish.specs.Gives.{state_of, decision_of, Settled}
use Rattle.message.specs.declared.Live.{Live}
use Rattle.reply_taken.specs.Decision.{reply_decision}
use Rattle.finish.proofs.Decides.{settles}

-- What is known of a reply when its facts are gathered: what they mean, the partner that they are of, and what the rules decide by the tables.
pub record Known (clock seq t : ℕ) (rows : List InstanceRow) (routes : List RouteRow) (o : Own) (k : Link) (p : Parsed) (vector : List Address)
    (f : Option (Found InstanceRow)) (g : Option (Found RouteRow)) (partner : InstanceRow) (a : ReplyFacts) : Type 0 where
  pub gathered : Gathered (answered_with (settings_of o) (received_by k []) (message_in p vector) (request_of partner) (reply_found f) (route_found g)) a
  pub found : (q : RequestRow) → answered_with (settings_of o) (received_by k []) (message_in p vector) q (reply_found f) (route_found g)
      ≡ answered (settings_of o) (view_of (state_of clock seq rows routes)) t (received_by k []) (message_in p vector) q
  pub decided : reply_decision (settings_of o) (state_of clock seq rows routes) t (received_by k []) (message_in p vector)
      ≡ decision_of
      (answer_of (reply_lines (settings_of o) (received_by k []) (message_in p vector) (answered (settings_of o) (view_of (state_of clock seq rows routes)) t (received_by k []) (message_in p vector) (request_of partner))))
      (accept_reply (settings_of o) seq t (received_by k []) (message_in p vector) (answered (settings_of o) (view_of (state_of clock seq rows routes)) t (received_by k []) (message_in p vector) (request_of partner)))

module _ {clock seq t : ℕ} {rows : List InstanceRow} {routes : List RouteRow} {o : Own} {k : Link} {p : Parsed} {vector : List Address}
    {f : Option (Found InstanceRow)} {g : Option (Found RouteRow)} {partner : InstanceRow} {a : ReplyFacts} (h : Known clock seq t rows routes o k p vector f g partner a) where
  abbrev x : Settings
  x = settings_of o

  abbrev s : State
  s = state_of clock seq rows routes

  abbrev c : Received
  c = received_by k []

  abbrev m : Message
  m = message_in p vector

  abbrev real : Answered
  real = answered x (view_of s) t c m (request_of partner)

  abbrev pub asking : Answered
  asking = answered_with x c m (request_of partner) (reply_found f) (route_found g)

  abbrev pub lines : Answered → List Line
  lines = reply_lines x c m

  abbrev pub accept : Answered → Accepted
  accept = accept_reply x seq t c m

  asking_is : asking ≡ real
  asking_is = h.found (request_of partner)

  -- what the rules decide
  pub reply_decided : reply_decision x s t c m ≡ decision_of (answer_of (lines asking)) (accept asking)
  reply_decided = h.decided ∙ rw (← asking_is)

  module _ (zero : answer_of (lines (answered_of a)) ≡ 0) where
    pub reply_rank : a.rank ≤ 65535
    reply_rank = reply.rank_fits x c m (request_of partner) (reply_found f) (route_found g) a h.gathered zero

    pub reply_room_lem : is_full x m (answered_of a) ≡ false
    reply_room_lem = (reply.none_holds x c m (answered_of a) zero).1

  -- what is stored and sent is the rules'
  pub reply_settled : (l : Live) → l ≡ record { row = option_map number_of f; route = option_map number_of g } → (d : Decided) (there back : Post)
      → Stores (accept (answered_of a)) (reply_found a.found) (route_found a.route) d
      → Posts x vector (reply_sent x m (answered_of a)).forward (reply_sent x m (answered_of a)).forward_to there
      → Posts x vector [] Destination.nowhere back
      → Settled x vector (accept asking) l d there back
  unfolding answered_with answered_of row_found accept_reply reply_sent
  reply_settled l el d there back w pf pr =
      settles lines accept (answered_of a) asking h.gathered.means (λ (q : Answered). q.row) (λ (q : Answered). q.route)
      reply_of f g l el refl refl x vector d there back w pf pr
