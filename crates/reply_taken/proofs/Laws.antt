-- From what searches give to what the rules decide of a reply.
use Prim.Native.Nat.{ℕ}
use mathlib.Core.Path.{◌≡◌, sym, ◌∙◌}
use mathlib.Core.List.{List, []}
use mathlib.Core.Option.{some, none}
use Rattle.std.specs.Prelude.{Option, Some, None}
use Rattle.plain.specs.Address.{Address}
use Rattle.plain.specs.Given.{Received, RequestRow, State}
use Rattle.plain.specs.Octets.{Message}
use Rattle.plain.specs.Answers.{view_of, answer_of}
use Rattle.plain.specs.Reply.{partner_of, answered_with, answered, reply_lines, accept_reply, orig_node, partner_number}
use Rattle.plain.specs.Plain.{idle}
use Rattle.row.specs.Meaning.{request_of}
use Rattle.row.specs.declared.InstanceRow.{InstanceRow}
use Rattle.row.specs.declared.RouteRow.{RouteRow}
use Rattle.own.specs.Settings.{settings_of}
use Rattle.own.specs.declared.Own.{Own}
use Rattle.message.specs.Message.{message_in, received_by, request_found, reply_found, route_found, row_found}
use Rattle.message.specs.declared.Parsed.{Parsed}
use Rattle.message.specs.declared.Link.{Link}
use Rattle.message.specs.declared.Found.{Found}
use Rattle.search.specs.Seen.{reply_seen, partner_seen}
use Rattle.search_route.specs.Seen.{route_seen}
use Rattle.finish.specs.Gives.{state_of, decision_of}
use Rattle.reply_taken.specs.Decision.{reply_decision}

module _ (clock seq t : ℕ) (rows : List InstanceRow) (routes : List RouteRow) (o : Own) (k : Link) (p : Parsed) (vector : List Address)
    (number : ℕ) (orig : Address) (e1 : number ≡ partner_number (message_in p vector)) (e2 : orig ≡ orig_node (message_in p vector))
    (w : Option (Found InstanceRow)) (sw : request_found w ≡ partner_seen clock rows t number orig p.discovery.h) where
  abbrev s : State
  s = state_of clock seq rows routes

  abbrev m : Message
  m = message_in p vector

  abbrev c : Received
  c = received_by k []

  partner_is : request_found w ≡ partner_of (view_of s) t m
  unfolding partner_seen partner_of message_in
  partner_is = sw ∙ rw (e1, e2)

  -- without a partner it is 8
  pub no_partner_is : w ≡ None → reply_decision (settings_of o) s t c m ≡ decision_of 8 (idle (view_of s))
  unfolding reply_decision row_found answer_of
  no_partner_is e =
      let g : partner_of (view_of s) t m ≡ none = sym partner_is ∙ rw e in
      rw g

  module _ (f : Option (Found InstanceRow)) (g : Option (Found RouteRow)) (sf : reply_found f ≡ reply_seen clock rows t p.base.instance p.base.dodagid)
      (sg : route_found g ≡ route_seen clock routes t orig p.base.dodagid number) where
    pub answered_is : (q : RequestRow)
        → answered_with (settings_of o) c m q (reply_found f) (route_found g) ≡ answered (settings_of o) (view_of s) t c m q
    unfolding answered reply_seen route_seen message_in
    answered_is q = rw (sf, sg, e1, e2)

  -- with one it is the reply's
  pub reply_is : (q : Found InstanceRow) → w ≡ Some q
      → reply_decision (settings_of o) s t c m
      ≡ decision_of (answer_of (reply_lines (settings_of o) c m (answered (settings_of o) (view_of s) t c m (request_of q.row))))
      (accept_reply (settings_of o) seq t c m (answered (settings_of o) (view_of s) t c m (request_of q.row)))
  unfolding reply_decision row_found
  reply_is q e =
      let g : partner_of (view_of s) t m ≡ some (record { number = q.at; row = request_of q.row }) = sym partner_is ∙ rw e in
      rw g
