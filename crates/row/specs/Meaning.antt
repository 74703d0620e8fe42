-- What each lent record means. A host writes the tables too, so every value of every field means something.
use Rattle.std.specs.Prelude.{ℕ, Bool, cond, not, List, ◌++◌, eqb, take, replicate}
use Rattle.std.proofs.Math.Option.{Option, some, none}
use Rattle.plain.specs.Address.{zero_address}
use Rattle.plain.specs.Blank.{no_target}
use Rattle.plain.specs.Given.{RequestRow, ReplyRow, Instance, Route}
use Rattle.plain.specs.declared.Target.{Target}
use Rattle.row.specs.declared.InstanceRow.{InstanceRow}
use Rattle.row.specs.declared.RouteRow.{RouteRow}

-- a flag is on when it is not 0
abbrev pub flag : ℕ → Bool
flag x = not (eqb x 0)

-- "its deadline is later than the call's time, or it has none"
unfoldable pub deadline_of : ℕ → ℕ → Option ℕ
deadline_of endless deadline = cond (eqb endless 0) (some deadline) none

-- The targets of a request row are its first `count`. A count over 8 is that many targets, of which the last are blank: "a row in use with
-- over 8 targets" is one whose count is over 8.
unfoldable pub targets_of : ℕ → List Target → List Target
targets_of count targets = take count (targets ++ replicate count no_target)

-- "The row holds Orig SeqNo, S out, H, own rank, neighbour, targets, replied, deadline from L" (A request), under its key
unfoldable pub request_of : InstanceRow → RequestRow
request_of r = record {
  instance = r.instance;
  dodagid = r.dodagid;
  seq = r.seq;
  s = flag r.s;
  h = flag r.h;
  rank = r.rank;
  neighbour = r.neighbour;
  targets = targets_of r.count r.targets;
  replied = flag r.replied;
  deadline = deadline_of r.endless r.deadline;
}

-- "Reply row key: RPLInstanceID, DODAGID; it holds Dest SeqNo, rank, deadline from L" (A reply)
unfoldable pub reply_of : InstanceRow → ReplyRow
reply_of r = record {
  instance = r.instance;
  dodagid = r.dodagid;
  seq = r.seq;
  rank = r.rank;
  deadline = deadline_of r.endless r.deadline;
}

-- "instance rows and route rows (fresh: none in use) .. one record for each row": kind 1 is a request row, 2 a reply row, any other value is
-- not in use
unfoldable pub instance_of : InstanceRow → Option Instance
instance_of r =
    cond (eqb r.kind 1) (some (Instance.request (request_of r))) (cond (eqb r.kind 2) (some (Instance.reply (reply_of r))) none)

-- "route with source .., destination .., the RPLInstanceID, next hop the neighbour" and a sequence number
unfoldable pub route_in : RouteRow → Route
route_in r = record {
  source = r.source;
  destination = r.destination;
  instance = r.instance;
  next_hop = r.next;
  seq = r.seq;
  deadline = deadline_of r.endless r.deadline;
}

-- kind 1 is a route, any other value is not in use
unfoldable pub route_of : RouteRow → Option Route
route_of r = cond (eqb r.kind 1) (some (route_in r)) none

-- what is read past a table's end: a record that is not in use
abbrev pub no_row : InstanceRow
no_row = record {
  kind = 0;
  instance = 0;
  seq = 0;
  s = 0;
  h = 0;
  replied = 0;
  endless = 0;
  count = 0;
  rank = 0;
  dodagid = zero_address;
  neighbour = zero_address;
  targets = replicate 8 no_target;
  deadline = 0;
}

-- the same for the routes
abbrev pub no_route : RouteRow
no_route = record {
  kind = 0;
  instance = 0;
  seq = 0;
  endless = 0;
  source = zero_address;
  destination = zero_address;
  next = zero_address;
  deadline = 0;
}
