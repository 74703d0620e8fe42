-- 01, "A reply": a received RREP.
use Rattle.std.specs.Prelude.{ℕ, Bool, false, cond, not, ◌&&◌, ◌||◌, List, [], ◌∷◌, reverse, eqb, ltb, length}
use Rattle.std.specs.Bool.{beq}
use Rattle.std.proofs.Math.Option.{Option, some, none}
use Rattle.plain.specs.Lists.{any, first_of, count, same}
use Rattle.plain.specs.Address.{Address, zero_address}
use Rattle.plain.specs.Given.{Settings, Received, RequestRow, ReplyRow, Instance, Route, Destination, Sent}
use Rattle.plain.specs.Table.{Numbered, put}
use Rattle.plain.specs.Answers.{Line, View, requests, request_for, live_reply, live_route}
use Rattle.plain.specs.Octets.{Message, octets_of, elided}
use Rattle.plain.specs.Rank.{min_hop, own_rank, rank_refused, freshness, standing, minus_delta}
use Rattle.plain.specs.Request.{Accepted, ours, cannot_elide, cannot_grow, grown, is_stale, is_nothing_new, kept_deadline, route_stale, route_row, route_change, with_rank, to_if, whole_target}
use Rattle.plain.specs.declared.Target.{Target}
use Rattle.plain.specs.declared.Standing.{Standing}
use Rattle.plain.specs.declared.Standing.TheVariants.{IsNew}

-- ---- The partner

-- the target of a reply: it has "one ART, which must be a whole address"
abbrev pub only_target : List Target → Target
only_target [] = whole_target zero_address 0
only_target (t ∷ ts) = t

-- OrigNode, the partner's DODAGID: "its DODAGID is the ART address"
abbrev pub orig_node : Message → Address
orig_node m = (only_target m.targets).addr

-- the ART's Dest SeqNo, which is TargNode's: "ART OrigNode with own stepped number" (A request)
abbrev pub dest_seq : Message → ℕ
dest_seq m = (only_target m.targets).seq

-- "The partner's number is RPLInstanceID minus Delta, rolling under 0 to 255"
abbrev pub partner_number : Message → ℕ
partner_number m = minus_delta m.base.instance m.discovery.number

-- 8: "a live partner request row of the same H"
unfoldable pub partner_of : View → ℕ → Message → Option (Numbered RequestRow)
partner_of v t m =
    first_of
    (λ (n : Numbered RequestRow). request_for t (partner_number m) (orig_node m) n.row && beq n.row.h m.discovery.h)
    (requests v.instances)

-- ---- What a received reply comes to

-- The facts of one reply that its answer and its outcome rest on.
pub record Answered : Type 0 where
  pub partner : RequestRow
  pub row : Option (Numbered ReplyRow)  -- the live row of its key
  pub route : Option (Numbered Route)  -- the live route of its three
  pub symmetric : Bool
  pub is_orig : Bool  -- "OrigNode (partner DODAGID is ours)"
  pub rank : ℕ
  pub standing : Standing

-- how a reply stands to the live row of its key: "updated or refused (13, 14) as a request row"
unfoldable pub reply_standing : Option (Numbered ReplyRow) → ℕ → ℕ → Standing
reply_standing none seq rank = IsNew
reply_standing (some n) seq rank = standing (freshness seq n.row.seq) false (ltb rank n.row.rank)

-- "House choice: a reply is symmetric if the partner's S is 1 and it came to us alone, else asymmetric." "Symmetric: .. own rank is the
-- advertised rank." The facts, where the partner, the live row and the live route are given.
unfoldable pub answered_with : Settings → Received → Message → RequestRow → Option (Numbered ReplyRow) → Option (Numbered Route) → Answered
answered_with x c m p row route =
    let symmetric = p.s && not c.to_group in
    let rank = cond symmetric m.base.rank (own_rank m.base.rank c.increase) in
    record {
      partner = p;
      row = row;
      route = route;
      symmetric = symmetric;
      is_orig = ours x p.dodagid;
      rank = rank;
      standing = reply_standing row (dest_seq m) rank;
    }

-- the facts of a reply at time t: the live row of its "Reply row key: RPLInstanceID, DODAGID", and the live route with "source OrigNode,
-- destination DODAGID, partner's number"
unfoldable pub answered : Settings → View → ℕ → Received → Message → RequestRow → Answered
answered x v t c m p =
    answered_with x c m p (live_reply v t m.base.instance m.base.dodagid)
    (live_route v t (orig_node m) m.base.dodagid (partner_number m))

-- "Symmetric: .. With H 0 between the ends, our receiving address must stand exactly once in the vector (else 9)"; "Asymmetric: .. with H
-- 0, 9 if either of our addresses is in the vector"
unfoldable pub reply_loops : Settings → Message → Answered → Bool
reply_loops x m a =
    not m.discovery.h
    && cond a.symmetric
    (not a.is_orig && not (eqb (count (same x.receiving) m.vector) 1))
    (any (ours x) m.vector)

-- a reply that goes on to the group with our addresses: "Asymmetric: .. with H 0 .. between the ends, add our addresses as for a request"
unfoldable pub grows : Message → Answered → Bool
grows m a = not a.symmetric && not a.is_orig && not m.discovery.h

-- ---- The lines of the table that a reply with a partner is asked, from 9 on

unfoldable pub reply_lines : Settings → Received → Message → Answered → List Line
reply_lines x c m a =
    record { number = 9; holds = reply_loops x m a }
    ∷ record { number = 10; holds = cannot_elide x m.discovery.h m.discovery.compr m.base.dodagid }
    -- "Symmetric: 11 and 12 aren't asked"; "Asymmetric: 11 if the link towards TargNode isn't good; 12 is asked"
    ∷ record { number = 11; holds = not a.symmetric && not c.downward }
    ∷ record {
      number = 12;
      holds =
          not a.symmetric
          && rank_refused (min_hop m.configuration) m.base.rank c.increase m.discovery.limit a.is_orig;
    }
    ∷ record { number = 13; holds = is_stale a.standing || route_stale m.discovery.h a.route (dest_seq m) }
    ∷ record { number = 14; holds = is_nothing_new a.standing }
    ∷ record { number = 16; holds = grows m a && cannot_grow m.discovery.compr (grown x m.discovery.h m.vector) }
    ∷ []

-- ---- Rows

-- "it holds Dest SeqNo, rank, deadline from L", which stays in an update
unfoldable pub reply_row : ℕ → Message → Answered → ReplyRow
reply_row t m a = record {
  instance = m.base.instance;
  dodagid = m.base.dodagid;
  seq = dest_seq m;
  rank = a.rank;
  deadline = kept_deadline (λ (r : ReplyRow). r.deadline) a.standing a.row t m.discovery.l;
}

-- ---- What is sent on

-- "Base and Configuration go on as for a request, then RREP and ART." "RREP fields else unchanged."
unfoldable pub forwarded_reply : Settings → Message → Answered → Message
forwarded_reply x m a = record {
  base = with_rank m.base a.rank;
  configuration = m.configuration;
  discovery = m.discovery;
  vector = cond (grows m a) (grown x m.discovery.h m.vector) m.vector;
  targets = m.targets;
}

-- "send to the address before it, or OrigNode": what stands before an address in a list, `first` where nothing does
unfoldable pub before : Address → Address → List Address → Address
before first a [] = first
before first a (y ∷ ys) = cond (same a y) first (before y a ys)

-- "Symmetric: .. With H 0 .. send to the address before it, or OrigNode. With H 1 send to the partner row's neighbour. Asymmetric: .. send
-- to the group."
unfoldable pub next_destination : Settings → Message → Answered → Destination
next_destination x m a =
    cond a.symmetric
    (Destination.neighbour (cond m.discovery.h a.partner.neighbour (before (orig_node m) x.receiving m.vector)))
    Destination.group

-- "with H 0 its forward buffer gets the full addresses for the caller, from OrigNode's side outward: in the vector's order if symmetric,
-- turned round if asymmetric"
unfoldable pub path : Message → Answered → List Address
path m a = cond a.symmetric m.vector (reverse m.vector)

-- "OrigNode .. sends nothing"; at length 0 the path goes nowhere
unfoldable pub reply_sent : Settings → Message → Answered → Sent
reply_sent x m a = record {
  forward = cond a.is_orig (elided 0 (path m a)) (octets_of (forwarded_reply x m a));
  forward_to = cond a.is_orig (to_if (ltb 0 (length (path m a))) Destination.caller) (next_destination x m a);
  reply = [];
  reply_to = Destination.nowhere;
}

-- "H 1: route with source OrigNode, destination DODAGID, partner's number, next hop the neighbour, Dest SeqNo"
unfoldable pub accept_reply : Settings → ℕ → ℕ → Received → Message → Answered → Accepted
accept_reply x own t c m a = record {
  sent = reply_sent x m a;
  own = own;
  instances = put a.row (Instance.reply (reply_row t m a));
  routes =
      route_change m.discovery.h a.route
      (route_row t (orig_node m) m.base.dodagid (partner_number m) c.neighbour (dest_seq m) m.configuration);
}
