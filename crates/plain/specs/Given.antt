-- 01, "What a node is given": settings, calls, state, and what comes out.
use Rattle.std.specs.Prelude.{ℕ, Bool, List}
use Rattle.std.proofs.Math.Option.{Option}
use Rattle.plain.specs.Address.{Address}
use Rattle.plain.specs.declared.Target.{Target}

-- "Settings: a receiving and a sending address."
pub record Settings : Type 0 where
  pub receiving : Address
  pub sending : Address

-- What comes with every call: "the time in ms", and "of the buffers only their lengths".
pub record Lent : Type 0 where
  pub time : ℕ
  pub forward_room : ℕ
  pub reply_room : ℕ

-- "a received DIO body (after the ICMPv6 header)", with its link facts: "the neighbour's address; whether the link is good upward
-- and downward (for a request, upward is from us to the neighbour; for a reply, downward is); the rank increase; and whether it
-- came to the group or to us alone".
pub record Received : Type 0 where
  pub octets : List ℕ
  pub neighbour : Address
  pub upward : Bool
  pub downward : Bool
  pub increase : ℕ
  pub to_group : Bool

-- "A start brings RPLInstanceID, H, Compr, L, RankLimit and targets, each with its Dest SeqNo."
pub record Start : Type 0 where
  pub instance : ℕ
  pub h : Bool
  pub compr : ℕ
  pub l : ℕ
  pub limit : ℕ
  pub targets : List Target

-- "One call handles one event: a received DIO body .., or the start of our own discovery."
pub data Event : Type 0 where
  message : Received → Event
  start : Start → Event

-- "One call handles one event", with what comes with every call.
pub record Call : Type 0 where
  pub lent : Lent
  pub event : Event

-- "The row holds Orig SeqNo, S out, H, own rank, neighbour, targets, replied, deadline from L" (A request), under its key.
-- A row may have no deadline.
pub record RequestRow : Type 0 where
  pub instance : ℕ
  pub dodagid : Address
  pub seq : ℕ
  pub s : Bool
  pub h : Bool
  pub rank : ℕ
  pub neighbour : Address
  pub targets : List Target
  pub replied : Bool
  pub deadline : Option ℕ

-- "Reply row key: RPLInstanceID, DODAGID; it holds Dest SeqNo, rank, deadline from L" (A reply).
pub record ReplyRow : Type 0 where
  pub instance : ℕ
  pub dodagid : Address
  pub seq : ℕ
  pub rank : ℕ
  pub deadline : Option ℕ

-- "instance rows" are of two kinds: request rows, "Row key: RPLInstanceID and DODAGID", and reply rows, "Reply row key: RPLInstanceID,
-- DODAGID".
pub data Instance : Type 0 where
  request : RequestRow → Instance
  reply : ReplyRow → Instance

-- "route with source .., destination .., the RPLInstanceID, next hop the neighbour" and a sequence number.
pub record Route : Type 0 where
  pub source : Address
  pub destination : Address
  pub instance : ℕ
  pub next_hop : Address
  pub seq : ℕ
  pub deadline : Option ℕ

-- "State: own sequence number (fresh 240), clock (the time of the last accepted call; fresh 0), instance rows and route rows (fresh:
-- none in use). Each table is lent as a run of rows": a row that is not in use is `none`.
pub record State : Type 0 where
  pub clock : ℕ
  pub own : ℕ
  pub instances : List (Option Instance)
  pub routes : List (Option Route)

-- "for each whether to the group, to which neighbour, to the caller (OrigNode's path) or, at length 0, nowhere"
pub data Destination : Type 0 where
  nowhere : Destination
  group : Destination
  neighbour : Address → Destination
  caller : Destination

-- What a call writes to the buffers, and where it is to go. The lengths are those of the lists.
pub record Sent : Type 0 where
  pub forward : List ℕ
  pub forward_to : Destination
  pub reply : List ℕ
  pub reply_to : Destination
