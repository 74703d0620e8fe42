-- The record that is written for each row: all its fields, those that its kind does not have 0.
use Rattle.std.specs.Prelude.{ℕ, length, replicate}
use Rattle.std.proofs.Math.Option.{Option, some, none}
use Rattle.plain.specs.Address.{zero_address}
use Rattle.plain.specs.Given.{RequestRow, ReplyRow, Route}
use Rattle.plain.specs.Octets.{bit}
use Rattle.lemmas.specs.Written.{over}
use Rattle.plain.specs.Blank.{no_target}
use Rattle.row.specs.declared.InstanceRow.{InstanceRow}
use Rattle.row.specs.declared.RouteRow.{RouteRow}

-- 1 where a row has no deadline: "or it has none"
abbrev pub endless_of : Option ℕ → ℕ
endless_of none = 1
endless_of (some deadline) = 0

-- the deadline, 0 where there is none
abbrev pub until_of : Option ℕ → ℕ
until_of none = 0
until_of (some deadline) = deadline

-- "The row holds Orig SeqNo, S out, H, own rank, neighbour, targets, replied, deadline from L". Past its own the targets are blank.
unfoldable pub request_record : RequestRow → InstanceRow
request_record r = record {
  kind = 1;
  instance = r.instance;
  seq = r.seq;
  s = bit r.s;
  h = bit r.h;
  replied = bit r.replied;
  endless = endless_of r.deadline;
  count = length r.targets;
  rank = r.rank;
  dodagid = r.dodagid;
  neighbour = r.neighbour;
  targets = over r.targets (replicate 8 no_target);
  deadline = until_of r.deadline;
}

-- "it holds Dest SeqNo, rank, deadline from L"
unfoldable pub reply_record : ReplyRow → InstanceRow
reply_record r = record {
  kind = 2;
  instance = r.instance;
  seq = r.seq;
  s = 0;
  h = 0;
  replied = 0;
  endless = endless_of r.deadline;
  count = 0;
  rank = r.rank;
  dodagid = r.dodagid;
  neighbour = zero_address;
  targets = replicate 8 no_target;
  deadline = until_of r.deadline;
}

-- "route with source .., destination .., the RPLInstanceID, next hop the neighbour, Orig SeqNo"
unfoldable pub route_record : Route → RouteRow
route_record r = record {
  kind = 1;
  instance = r.instance;
  seq = r.seq;
  endless = endless_of r.deadline;
  source = r.source;
  destination = r.destination;
  next = r.next_hop;
  deadline = until_of r.deadline;
}
