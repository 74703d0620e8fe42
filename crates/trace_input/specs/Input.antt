-- What the octets of a record say. Past its end they are 0.
use Rattle.std.specs.Prelude.{ℕ, zero, suc, ◌+◌, ◌*◌, cond, List, map, eqb}
use Rattle.std.specs.List.{range_with_len}
use Rattle.plain.specs.Octets.{octet_at}
use Rattle.plain.specs.declared.Target.{Target}
use Rattle.message.specs.declared.Link.{Link}
use Rattle.own.specs.declared.Own.{Own}
use Rattle.row.specs.Meaning.{flag}
use Rattle.row.specs.declared.InstanceRow.{InstanceRow}
use Rattle.row.specs.declared.RouteRow.{RouteRow}
use Rattle.trace_input.specs.declared.Kind.{Kind}
use Rattle.trace_input.specs.declared.Kind.TheVariants.{Fresh, Message, Start, Own as OwnRecord, Buffers, Clock, Number, Row, Route, Count, End, Other}

-- what a record is, by the ASCII number of its letter
unfoldable pub kind_in : ℕ → Kind
kind_in letter =
    cond (eqb letter 110) Fresh
    (cond (eqb letter 109) Message
    (cond (eqb letter 115) Start
    (cond (eqb letter 97) OwnRecord
    (cond (eqb letter 98) Buffers
    (cond (eqb letter 99) Clock
    (cond (eqb letter 100) Number
    (cond (eqb letter 114) Row
    (cond (eqb letter 116) Route
    (cond (eqb letter 107) Count
    (cond (eqb letter 101) End Other))))))))))

-- the number of n octets from a place on, its most significant octet first
unfoldable pub number_in : ℕ → List ℕ → ℕ → ℕ
number_in zero o from = 0
number_in (suc n) o from = number_in n o from * 256 + octet_at o (from + n)

-- the n octets from a place on
unfoldable pub octets_in : ℕ → List ℕ → ℕ → List ℕ
octets_in n o from = map (λ i. octet_at o (from + i)) (range_with_len 0 n)

-- Dest SeqNo, Prefix Length, address
unfoldable pub target_in : List ℕ → ℕ → Target
target_in o from = record { seq = octet_at o from; plen = octet_at o (from + 1); addr = octets_in 16 o (from + 2) }

-- the n targets from a place on
unfoldable pub targets_in : ℕ → List ℕ → ℕ → List Target
targets_in n o from = map (λ i. target_in o (from + i * 18)) (range_with_len 0 n)

-- a node's own addresses
abbrev pub own_in : List ℕ → Own
own_in o = record { receiving = octets_in 16 o 0; sending = octets_in 16 o 16 }

-- the link facts of a message, after its time
abbrev pub link_in : List ℕ → Link
link_in o = record {
  neighbour = octets_in 16 o 8;
  upward = flag (octet_at o 24);
  downward = flag (octet_at o 25);
  increase = number_in 2 o 26;
  group = flag (octet_at o 28);
}

-- an instance row, after its number
unfoldable pub row_in : List ℕ → InstanceRow
row_in o = record {
  kind = octet_at o 2;
  instance = octet_at o 3;
  seq = octet_at o 4;
  s = octet_at o 5;
  h = octet_at o 6;
  replied = octet_at o 7;
  endless = octet_at o 8;
  count = octet_at o 9;
  rank = number_in 2 o 10;
  dodagid = octets_in 16 o 12;
  neighbour = octets_in 16 o 28;
  targets = targets_in 8 o 52;
  deadline = number_in 8 o 44;
}

-- a route, after its number
unfoldable pub route_in : List ℕ → RouteRow
route_in o = record {
  kind = octet_at o 2;
  instance = octet_at o 3;
  seq = octet_at o 4;
  endless = octet_at o 5;
  source = octets_in 16 o 6;
  destination = octets_in 16 o 22;
  next = octets_in 16 o 38;
  deadline = number_in 8 o 54;
}
