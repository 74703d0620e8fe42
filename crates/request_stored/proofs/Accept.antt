-- The decision, from its parts.
use Prim.Native.Nat.{ℕ}
use mathlib.Core.Path.{◌≡◌, ◌∙◌}
use mathlib.Core.Bool.{Bool, cond}
use mathlib.Core.List.{List, []}
use Rattle.plain.specs.Rank.{stepped}
use Rattle.plain.specs.Address.{Address}
use Rattle.plain.specs.Given.{Settings, Received, Instance, Route}
use Rattle.plain.specs.Table.{put}
use Rattle.plain.specs.Octets.{Message}
use Rattle.std.specs.Prelude.{Some, None, option_map}
use Rattle.plain.specs.Request.{Asked, replies_now, request_row, own_reply_row, route_row, delta_or0, accept_request}
use Rattle.row.specs.Record.{request_record, route_record}
use Rattle.row.specs.Fields.{reply_in}
use Rattle.row.proofs.Laws.{second_if, route_if}
use Rattle.decision.proofs.Laws.{meant, again, routes_meant, routes_again}
use Rattle.decision.specs.Decision.{instances_by, record_of, routes_by, Stores}
use Rattle.decision.specs.declared.Decided.{Decided}
use Rattle.lemmas.specs.Optional.{of_option}
use Rattle.message.specs.Message.{message_in, received_by, request_found, route_found}
use Rattle.message.specs.declared.Parsed.{Parsed}
use Rattle.message.specs.declared.Link.{Link}
use Rattle.request.specs.Facts.{asked_of}
use Rattle.request.specs.declared.RequestFacts.{RequestFacts}

-- ---- A call that is answered 0

module _ (x : Settings) (own t : ℕ) (c : Received) (m : Message) (a : Asked) (r : Decided) where
  -- its route
  abbrev hop : Route
  hop = route_row t x.receiving m.base.dodagid m.base.instance c.neighbour m.discovery.number m.configuration

  pub accepts : r.row ≡ request_record (request_row t c m a)
      → option_map reply_in r.second ≡ cond (replies_now a) (Some (own_reply_row x t (stepped own) m (delta_or0 a.delta))) None
      → r.route ≡ cond m.discovery.h (Some (route_record hop)) None
      → r.seq ≡ cond (replies_now a) (stepped own) own
      → Stores (accept_request x own t c m a) a.row a.route r
  unfolding accept_request instances_by routes_by record_of
  accepts er es et eq = record {
    own = eq;
    instances =
        rw (
          er,
          meant (Instance.request (request_row t c m a)),
          es,
          second_if (put a.row (Instance.request (request_row t c m a))) (replies_now a) (own_reply_row x t (stepped own) m (delta_or0 a.delta)),
        );
    routes = rw (et, routes_meant m.discovery.h hop, route_if a.route m.discovery.h hop);
    row = rw er (again (Instance.request (request_row t c m a)));
    route = rw et (routes_again m.discovery.h hop);
  }

-- ---- The same from what each part of the code says of its part

module _ (x : Settings) (own t : ℕ) (k : Link) (p : Parsed) (a : RequestFacts) (r : Decided) (next delta : ℕ) (replies : Bool) where
  pub accepted_is : next ≡ stepped own
      → delta ≡ delta_or0 (of_option a.delta)
      → replies ≡ replies_now (asked_of a)
      → r.row ≡ request_record (request_row t (received_by k []) (message_in p []) (asked_of a))
      → option_map reply_in r.second ≡ cond replies (Some (own_reply_row x t next (message_in p []) delta)) None
      → r.route
      ≡ cond p.discovery.h
      (Some (route_record
      (route_row t x.receiving p.base.dodagid p.base.instance k.neighbour p.discovery.number
      (of_option p.configuration)))) None
      → r.seq ≡ cond replies next own
      → (v : List Address)
      → Stores (accept_request x own t (received_by k []) (message_in p v) (asked_of a)) (request_found a.row) (route_found a.route) r
  unfolding message_in request_row own_reply_row asked_of
  accepted_is en ed ep er es et eq v =
      accepts x own t (received_by k []) (message_in p v) (asked_of a) r er (rw (ep, en, ed) at es) et (eq ∙ rw (ep, en))
