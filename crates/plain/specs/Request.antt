-- 01, "A request": a received RREQ, and the start of our own discovery.
use Rattle.std.specs.Prelude.{ℕ, zero, suc, Bool, true, false, cond, not, ◌&&◌, ◌||◌, List, [], ◌∷◌, ◌++◌, map, eqb, ltb, length}
use Rattle.std.proofs.Math.Option.{Option, some, none}
use Rattle.plain.specs.Lists.{any, those, once, same, given}
use Rattle.plain.specs.Address.{Address, zero_address, agree, shares_first, first_bits}
use Rattle.plain.specs.Given.{Settings, Received, Start, RequestRow, ReplyRow, Instance, Route, Destination, Sent}
use Rattle.plain.specs.Table.{Numbered, Change, no_change, put}
use Rattle.plain.specs.Answers.{Line, View, live_request, live_route, replies, reply_for}
use Rattle.plain.specs.Octets.{Message, octets_of, same_target, prefix_bits, most_addresses, elided}
use Rattle.plain.specs.Rank.{min_hop, integer_part, own_rank, rank_refused, freshness, stepped, standing, outdated, row_deadline, lifetime_deadline, plus_delta}
use Rattle.plain.specs.declared.Target.{Target}
use Rattle.plain.specs.declared.Base.{Base}
use Rattle.plain.specs.declared.Discovery.{Discovery}
use Rattle.plain.specs.declared.Standing.{Standing}
use Rattle.plain.specs.declared.Standing.TheVariants.{IsNew, Afresh, Update, Stale, NothingNew}

-- ---- Our addresses

-- "our receiving or sending address"
abbrev pub ours : Settings → Address → Bool
ours x a = same a x.receiving || same a x.sending

-- 10: "H is 0 and one of our addresses differs from the DODAGID in the first Compr octets"
unfoldable pub cannot_elide : Settings → Bool → ℕ → Address → Bool
cannot_elide x h compr dodagid =
    not h && not (shares_first compr dodagid x.receiving && shares_first compr dodagid x.sending)

-- "add our receiving address, then the sending one if different"
unfoldable pub own_vector : Settings → List Address
own_vector x = cond (same x.receiving x.sending) (x.receiving ∷ []) (x.receiving ∷ x.sending ∷ [])

-- "With H 0 add our receiving address, then the sending one if different."
abbrev pub grown : Settings → Bool → List Address → List Address
grown x h vector = cond h vector (vector ++ own_vector x)

-- how many octets a vector may have: with the three before it they fill the length octet of its option
abbrev pub most_octets : ℕ
most_octets = 252

-- 16: "vector can't grow: past 16 addresses or 252 octets"
unfoldable pub cannot_grow : ℕ → List Address → Bool
cannot_grow compr vector = ltb most_addresses (length vector) || ltb most_octets (length (elided compr vector))

-- ---- Targets

-- a target "equals" an address, "or shares its first Prefix Length bits"
unfoldable pub matches : Target → Address → Bool
matches t a = agree (prefix_bits t.plen) t.addr a

-- "Targets we match": a target matches "one of our addresses"
abbrev pub matches_us : Settings → Target → Bool
matches_us x t = matches t x.receiving || matches t x.sending

-- "We are TargNode if a target in the message equals one of our addresses, or shares its first Prefix Length bits."
abbrev pub are_targ_node : Settings → Message → Bool
are_targ_node x m = any (matches_us x) m.targets

-- "Targets we match are taken out of row and forward."
abbrev pub not_ours : Settings → List Target → List Target
not_ours x ts = those (λ (t : Target). not (matches_us x t)) ts

-- "the targets become those also in the row, in the message's order with its Dest SeqNos"
unfoldable pub common : List Target → List Target → List Target
common ts row = those (λ (t : Target). any (same_target t) row) ts

-- ---- The live row and the live route of a request

-- the live row of a request's key: "Row key: RPLInstanceID and DODAGID."
abbrev pub row_of_request : View → ℕ → Message → Option (Numbered RequestRow)
row_of_request v t m = live_request v t m.base.instance m.base.dodagid

-- How a request stands to the live row of its key. "With a live row: older or not comparable Orig SeqNo is 13; equal and (we replied, or
-- own rank not lower) is 14; equal and lower rank updates the row"; "Newer starts afresh in the same row." Without one it is new.
unfoldable pub request_standing : Option (Numbered RequestRow) → ℕ → ℕ → Standing
request_standing none seq rank = IsNew
request_standing (some n) seq rank = standing (freshness seq n.row.seq) n.row.replied (ltb rank n.row.rank)

-- "older or not comparable Orig SeqNo is 13"
abbrev pub is_stale : Standing → Bool
is_stale Stale = true
is_stale IsNew = false
is_stale Afresh = false
is_stale Update = false
is_stale NothingNew = false

-- "equal and (we replied, or own rank not lower) is 14"
abbrev pub is_nothing_new : Standing → Bool
is_nothing_new NothingNew = true
is_nothing_new IsNew = false
is_nothing_new Afresh = false
is_nothing_new Update = false
is_nothing_new Stale = false

-- "equal and lower rank updates the row"
abbrev pub is_update : Standing → Bool
is_update Update = true
is_update IsNew = false
is_update Afresh = false
is_update Stale = false
is_update NothingNew = false

-- "H 1: route with source our receiving address, destination DODAGID, the RPLInstanceID"
abbrev pub route_of_request : Settings → View → ℕ → Message → Option (Numbered Route)
route_of_request x v t m = live_route v t x.receiving m.base.dodagid m.base.instance

-- "A live route of the same three with a newer or not comparable number makes 13 (house choice)", for H 1
unfoldable pub route_stale : Bool → Option (Numbered Route) → ℕ → Bool
route_stale h none seq = false
route_stale h (some n) seq = h && outdated (freshness n.row.seq seq)

-- ---- The Delta of our reply

-- the least number from d on that is not taken, of n tried
unfoldable pub least_delta : (ℕ → Bool) → ℕ → ℕ → Option ℕ
least_delta taken d zero = none
least_delta taken d (suc n) = cond (taken d) (least_delta taken (suc d) n) (some d)

-- "RPLInstanceID plus Delta, rolling over past 255 to 0," is "in use by a live reply row with that DODAGID"
unfoldable pub delta_taken : View → ℕ → ℕ → Address → ℕ → Bool
delta_taken v t instance dodagid delta =
    any (λ (n : Numbered ReplyRow). reply_for t (plus_delta instance delta) dodagid n.row) (replies v.instances)

-- "Delta is the least of 0..63 for which RPLInstanceID plus Delta .. is not in use by a live reply row with that DODAGID." None is 15.
unfoldable pub free_delta : View → ℕ → ℕ → Address → Option ℕ
free_delta v t instance dodagid = least_delta (delta_taken v t instance dodagid) 0 64

-- ---- What a received request comes to

-- The facts of one request that its answer and its outcome rest on.
pub record Asked : Type 0 where
  pub row : Option (Numbered RequestRow)  -- the live row of its key
  pub route : Option (Numbered Route)  -- the live route of its three
  pub rank : ℕ  -- "Own rank is advertised rank plus increase."
  pub standing : Standing
  pub is_targ : Bool  -- we are TargNode
  pub targets : List Target  -- those that stay in the row and go on in the forward
  pub delta : Option ℕ  -- the least Delta that is free, if one is

-- the targets of the live row, none where there is no such row
abbrev pub row_targets : Option (Numbered RequestRow) → List Target
row_targets none = []
row_targets (some n) = n.row.targets

-- "equal and lower rank updates the row .. the targets become those also in the row"; else the message's. "Targets we match are taken
-- out of row and forward."
unfoldable pub targets_kept : Settings → Standing → Option (Numbered RequestRow) → List Target → List Target
targets_kept x st row ts = not_ours x (cond (is_update st) (common ts (row_targets row)) ts)

-- the facts, where the live row, the live route and the free Delta are given
unfoldable pub asked_with : Settings → Received → Message → Option (Numbered RequestRow) → Option (Numbered Route) → Option ℕ → Asked
asked_with x c m row route delta =
    let rank = own_rank m.base.rank c.increase in
    let st = request_standing row m.discovery.number rank in
    record {
      row = row;
      route = route;
      rank = rank;
      standing = st;
      is_targ = are_targ_node x m;
      targets = targets_kept x st row m.targets;
      delta = delta;
    }

-- the facts of a request at time t: its live row and live route, and the Delta that is free for "DODAGID our receiving address"
unfoldable pub asked : Settings → View → ℕ → Received → Message → Asked
asked x v t c m =
    asked_with x c m (row_of_request v t m) (route_of_request x v t m) (free_delta v t m.base.instance x.receiving)

-- "Forward to the group, if targets remain (and own integer rank is under RankLimit, if not 0)"
unfoldable pub forwards : Message → Asked → Bool
forwards m a =
    ltb 0 (length a.targets)
    && (eqb m.discovery.limit 0 || ltb (integer_part (min_hop m.configuration) a.rank) m.discovery.limit)

-- "TargNode replies where the row is new or afresh"; "an update never replies"
unfoldable pub replies_now : Asked → Bool
replies_now a = a.is_targ && not (is_update a.standing)

-- ---- The lines of the table that a request is asked, from 9 on

unfoldable pub request_lines : Settings → Received → Message → Asked → List Line
request_lines x c m a =
    -- 9: "our receiving or sending address stands in the vector"
    record { number = 9; holds = any (ours x) m.vector }
    ∷ record { number = 10; holds = cannot_elide x m.discovery.h m.discovery.compr m.base.dodagid }
    -- 11: "the upward link isn't good"
    ∷ record { number = 11; holds = not c.upward }
    ∷ record {
      number = 12;
      holds = rank_refused (min_hop m.configuration) m.base.rank c.increase m.discovery.limit a.is_targ;
    }
    -- 13: "older or not comparable Orig SeqNo", or a route with a newer or not comparable one
    ∷ record { number = 13; holds = is_stale a.standing || route_stale m.discovery.h a.route m.discovery.number }
    ∷ record { number = 14; holds = is_nothing_new a.standing }
    -- 15: "no Delta free"
    ∷ record { number = 15; holds = replies_now a && not (given a.delta) }
    -- "16 only when forwarding"
    ∷ record {
      number = 16;
      holds = forwards m a && not m.discovery.h && cannot_grow m.discovery.compr (grown x m.discovery.h m.vector);
    }
    ∷ []

-- ---- Rows

-- "S out is S in and downward good."
abbrev pub s_out : Received → Message → Bool
s_out c m = m.discovery.flag && c.downward

-- "equal and lower rank updates the row: .. the deadline stays"; else the deadline is from L. For request rows and reply rows alike:
-- `deadline` tells a row's.
unfoldable pub kept_deadline : {A : Type 0} → (A → Option ℕ) → Standing → Option (Numbered A) → ℕ → ℕ → Option ℕ
kept_deadline deadline st none t l = row_deadline t l
kept_deadline deadline st (some n) t l = cond (is_update st) (deadline n.row) (row_deadline t l)

-- "The row holds Orig SeqNo, S out, H, own rank, neighbour, targets, replied, deadline from L." In an update "rank, neighbour, S out and H
-- are the new ones".
unfoldable pub request_row : ℕ → Received → Message → Asked → RequestRow
request_row t c m a = record {
  instance = m.base.instance;
  dodagid = m.base.dodagid;
  seq = m.discovery.number;
  s = s_out c m;
  h = m.discovery.h;
  rank = a.rank;
  neighbour = c.neighbour;
  targets = a.targets;
  replied = replies_now a;
  deadline = kept_deadline (λ (r : RequestRow). r.deadline) a.standing a.row t m.discovery.l;
}

-- "route with source .., destination .., the RPLInstanceID, next hop the neighbour, Orig SeqNo" (A request), or "partner's number, next hop
-- the neighbour, Dest SeqNo" (A reply). "A route lasts Default Lifetime times Lifetime Unit seconds".
unfoldable pub route_row : ℕ → Address → Address → ℕ → Address → ℕ → Option (List ℕ) → Route
route_row t source destination instance next_hop seq configuration = record {
  source = source;
  destination = destination;
  instance = instance;
  next_hop = next_hop;
  seq = seq;
  deadline = lifetime_deadline t configuration;
}

-- "H 1: route with source .."; a live one of the same three: "else it is replaced". With H 0 no route changes.
unfoldable pub route_change : Bool → Option (Numbered Route) → Route → Change Route
route_change h found r = cond h (put found r) no_change

-- ---- What is sent on

-- "the base with own rank, DTSN, Flags and Reserved 0"
unfoldable pub with_rank : Base → ℕ → Base
with_rank b rank = record {
  instance = b.instance;
  version = b.version;
  rank = rank;
  g = b.g;
  prf = b.prf;
  dodagid = b.dodagid;
}

-- "RREQ with S out"
unfoldable pub with_flag : Discovery → Bool → Discovery
with_flag d flag = record {
  reply = d.reply;
  flag = flag;
  h = d.h;
  compr = d.compr;
  l = d.l;
  limit = d.limit;
  number = d.number;
}

-- "the base with own rank .., Configuration if present, RREQ with S out, ARTs in arrival order. With H 0 add our receiving address, then
-- the sending one if different."
unfoldable pub forwarded_request : Settings → Received → Message → Asked → Message
forwarded_request x c m a = record {
  base = with_rank m.base a.rank;
  configuration = m.configuration;
  discovery = with_flag m.discovery (s_out c m);
  vector = grown x m.discovery.h m.vector;
  targets = a.targets;
}

-- A target that is a whole address.
abbrev pub whole_target : Address → ℕ → Target
whole_target a seq = record { seq = seq; plen = 0; addr = a }

-- "H copied, DODAGID our receiving address, rank MinHopRankIncrease, Version, both Gs and Prf 0, Configuration copied, L copied, RankLimit
-- 0, ART OrigNode with own stepped number." "S out 1: .. vector and Compr as received. S out 0: .. vector empty, Compr as received."
unfoldable pub reply_message : Settings → ℕ → Received → Message → ℕ → Message
reply_message x own c m delta = record {
  base = record {
    instance = plus_delta m.base.instance delta;
    version = 0;
    rank = min_hop m.configuration;
    g = false;
    prf = 0;
    dodagid = x.receiving;
  };
  configuration = m.configuration;
  discovery = record {
    reply = true;
    flag = false;
    h = m.discovery.h;
    compr = m.discovery.compr;
    l = m.discovery.l;
    limit = 0;
    number = delta;
  };
  vector = cond (s_out c m) m.vector [];
  targets = whole_target m.base.dodagid own ∷ [];
}

-- "It needs a new reply row, which holds the reply's own fields."
unfoldable pub own_reply_row : Settings → ℕ → ℕ → Message → ℕ → ReplyRow
own_reply_row x t own m delta = record {
  instance = plus_delta m.base.instance delta;
  dodagid = x.receiving;
  seq = own;
  rank = min_hop m.configuration;
  deadline = row_deadline t m.discovery.l;
}

-- ---- The outcome of a call that is answered 0, but for the rows' places

-- "rows, own number, octets and destinations" (What the promises must settle): what is sent, the own number after the call, and what
-- becomes of each table
pub record Accepted : Type 0 where
  pub sent : Sent
  pub own : ℕ
  pub instances : Change Instance
  pub routes : Change Route

-- the octets of a message, if it is sent
abbrev pub octets_if : Bool → Message → List ℕ
octets_if b m = cond b (octets_of m) []

-- where to, if it is sent; else "at length 0, nowhere"
abbrev pub to_if : Bool → Destination → Destination
to_if b to = cond b to Destination.nowhere

-- "S out 1: to the neighbour .. S out 0: to the group"
abbrev pub reply_destination : Received → Message → Destination
reply_destination c m = cond (s_out c m) (Destination.neighbour c.neighbour) Destination.group

-- "It needs a new reply row", if we reply; "a request row before its reply row"
unfoldable pub with_reply_row : Change Instance → Bool → ReplyRow → Change Instance
with_reply_row change replying r = cond replying (record { become = change.become; new = change.new ++ (Instance.reply r ∷ []) }) change

-- Delta, where one is free: 15 is answered else
abbrev pub delta_or0 : Option ℕ → ℕ
delta_or0 none = 0
delta_or0 (some d) = d

-- `own` is our number before the call, t the call's time.
unfoldable pub accept_request : Settings → ℕ → ℕ → Received → Message → Asked → Accepted
accept_request x own t c m a =
    let next = stepped own in
    let delta = delta_or0 a.delta in
    record {
      sent = record {
        forward = octets_if (forwards m a) (forwarded_request x c m a);
        forward_to = to_if (forwards m a) Destination.group;
        reply = octets_if (replies_now a) (reply_message x next c m delta);
        reply_to = to_if (replies_now a) (reply_destination c m);
      };
      own = cond (replies_now a) next own;
      instances = with_reply_row (put a.row (Instance.request (request_row t c m a))) (replies_now a) (own_reply_row x t next m delta);
      routes =
          route_change m.discovery.h a.route
          (route_row t x.receiving m.base.dodagid m.base.instance c.neighbour m.discovery.number m.configuration);
    }

-- ---- A start

-- "spare bits ignored, stored and sent as zero"
unfoldable pub whole_bits : Target → Target
whole_bits t = record { seq = t.seq; plen = t.plen; addr = first_bits (prefix_bits t.plen) t.addr }

-- "A target listed twice in a request or start .. counts once, at its first place"
unfoldable pub start_targets : Start → List Target
start_targets c = map whole_bits (once same_target c.targets)

-- The lines that a start is asked from 3 on: 10, and "14 if a row of that key is live".
unfoldable pub start_lines : Settings → View → ℕ → Start → List Line
start_lines x v t c =
    record { number = 10; holds = cannot_elide x c.h c.compr x.receiving }
    ∷ record { number = 14; holds = given (live_request v t c.instance x.receiving) }
    ∷ []

-- "A start stores a request row (rank 256, neighbour all zero, not replied, all its targets)"; its other fields are those of the
-- request that is written
unfoldable pub start_row : Settings → ℕ → ℕ → Start → List Target → RequestRow
start_row x t own c targets = record {
  instance = c.instance;
  dodagid = x.receiving;
  seq = own;
  s = true;
  h = c.h;
  rank = 256;
  neighbour = zero_address;
  targets = targets;
  replied = false;
  deadline = row_deadline t c.l;
}

-- "and writes a request for the group: S 1, Version, G and Prf 0, no Configuration, empty vector, rank 256, stepped own number, our
-- receiving address as DODAGID". "With H 1 .. Compr, like X bits, is ignored, sent 0."
unfoldable pub start_message : Settings → ℕ → Start → List Target → Message
start_message x own c targets = record {
  base = record { instance = c.instance; version = 0; rank = 256; g = false; prf = 0; dodagid = x.receiving };
  configuration = none;
  discovery = record { reply = false; flag = true; h = c.h; compr = cond c.h 0 c.compr; l = c.l; limit = c.limit; number = own };
  vector = [];
  targets = targets;
}

-- "A start stores a request row .. and writes a request for the group"; "Own number steps before each start". `targets` are the start's
-- without repeats.
unfoldable pub accept_start : Settings → ℕ → ℕ → Start → List Target → Accepted
accept_start x own t c targets =
    let next = stepped own in
    record {
      sent = record {
        forward = octets_of (start_message x next c targets);
        forward_to = Destination.group;
        reply = [];
        reply_to = Destination.nowhere;
      };
      own = next;
      instances = record { become = []; new = Instance.request (start_row x t next c targets) ∷ [] };
      routes = no_change;
    }
