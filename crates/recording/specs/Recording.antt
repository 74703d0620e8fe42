-- Demand 3, "More memory never changes an answer", of the public calls: one claim about recordings, by way of the calls' contracts.
-- `Called` is one real call, `Promised` its contract, `fed` what the plain node is fed of it (calls, specs/Calls.antt).
use Rattle.std.specs.Prelude.{◌≤◌, ◌≡◌, cond, List, [], ◌∷◌, map, eqb, length, take}
use Rattle.std.proofs.Math.Option.{Option, none}
use Rattle.plain.specs.Given.{Call}
use Rattle.plain.specs.Table.{live_rows, instance_deadline, route_deadline}
use Rattle.plain.specs.Plain.{Seen, plain}
use Rattle.answer.specs.Answer.{answer_number, destination_of}
use Rattle.own.specs.Settings.{settings_of}
use Rattle.own.specs.declared.Own.{Own}
use Rattle.row.specs.Meaning.{instance_of, route_of}
use Rattle.called.specs.Calls.{Node, Called, fed, Promised}

-- ---- Recordings

-- what a call left: its tables, and the clock and own number that it returned
abbrev pub node_after : Called → Node
node_after e = record { clock = e.outcome.clock; seq = e.outcome.seq; instances = e.instances_after; routes = e.routes_after }

-- "Each call gets the tables, clock and own sequence number that the last one left, and nobody else writes them meanwhile": calls of one
-- node, from what it holds, each of which meets its contract.
abbrev pub Recorded : Own → Node → List Called → Type 0
Recorded o n [] = Unit {0}
Recorded o n (e ∷ es) = (e.before ≡ n) × Promised o e × Recorded o (node_after e) es

-- each row is not in use, whatever else stands in it
abbrev pub Unused : {A B : Type 0} → (A → Option B) → List A → Type 0
Unused meaning [] = Unit {0}
Unused meaning (r ∷ rows) = (meaning r ≡ none) × Unused meaning rows

-- "A fresh node, with .. any number of rows in each table"; "own sequence number (fresh 240), clock (.. fresh 0), instance rows and route
-- rows (fresh: none in use)" (01)
pub record Fresh (n : Node) : Type 0 where
  pub clock : n.clock ≡ 0
  pub own : n.seq ≡ 240
  pub instances : Unused instance_of n.instances
  pub routes : Unused route_of n.routes

-- "Strike out the calls answered 17, for want of a table row": the calls that are left.
unfoldable pub left : List Called → List Called
left [] = []
left (e ∷ es) = cond (eqb (answer_number e.outcome.answer) 17) (left es) (e ∷ left es)

-- What is seen after a call: "answer number, both lengths, destinations, both buffers up to those lengths, clock, own sequence number, and
-- the live rows, by row number and fields". "After a call a row is live by the clock as left" (01).
abbrev pub seen_after : Called → Seen
seen_after e = record {
  answer = answer_number e.outcome.answer;
  forward_length = e.outcome.forward.size;
  reply_length = e.outcome.reply.size;
  forward_to = destination_of e.outcome.forward.to;
  reply_to = destination_of e.outcome.reply.to;
  forward = take e.outcome.forward.size e.forward_after;
  reply = take e.outcome.reply.size e.reply_after;
  clock = e.outcome.clock;
  own = e.outcome.seq;
  instances = live_rows instance_deadline e.outcome.clock (map instance_of e.instances_after);
  routes = live_rows route_deadline e.outcome.clock (map route_of e.routes_after);
}

-- after each call of a recording
abbrev pub seen : List Called → List Seen
seen es = map seen_after es

-- what the node of a recording was fed: each call's arguments, of the buffers their lengths
abbrev pub calls : List Called → List Call
calls es = map fed es

-- ---- The claim

-- `es`: what a first node did, from n. `fs`: what a second one did, from m.
pub record MoreMemory (o : Own) (n m : Node) (es fs : List Called) : Type 0 where
  -- "after every call of either list these are exactly what 01's plain node, fed that list with as many rows, gives"
  pub first : seen es ≡ plain (settings_of o) (length n.instances) (length n.routes) (calls es)
  pub second : seen fs ≡ plain (settings_of o) (length m.instances) (length m.routes) (calls fs)
  -- "For every call left in, they are alike in both runs."
  pub alike : seen (left es) ≡ seen fs

abbrev pub Claim : Type 0
Claim =
    -- "for every list of calls, refused ones included: received messages and starts of our own discovery, in any order, with anything in
    -- them"; "Whatever stood in buffers and in rows not in use"
    (o : Own) (n m : Node) (es fs : List Called)
    -- "A fresh node, with any settings and any number of rows in each table, is fed the list."
    → Fresh n → Recorded o n es
    -- "A second fresh node, with the same settings"
    → Fresh m → Recorded o m fs
    -- "and at least as many rows in each table"
    → length n.instances ≤ length m.instances → length n.routes ≤ length m.routes
    -- "is fed the rest alike, with buffers as long as before"
    → calls fs ≡ calls (left es)
    → MoreMemory o n m es fs
