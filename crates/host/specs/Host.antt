-- What a host is told, and what a call gives it: the plain node's result, and its tally.
use Rattle.std.specs.Prelude.{ℕ, ◌≡◌, List, length}
use Rattle.lemmas.specs.Written.{over}
use Rattle.plain.specs.Address.{Address, zero_address}
use Rattle.plain.specs.Given.{Destination}
use Rattle.plain.specs.Plain as plain
use Rattle.plain.specs.Tally.{raised}
use Rattle.answer.specs.Answer.{answer_number, destination_of}
use Rattle.row.specs.declared.InstanceRow.{InstanceRow}
use Rattle.row.specs.declared.RouteRow.{RouteRow}
use Rattle.finish.specs.Gives.{state_of, Records, RouteRecords}
use Rattle.outcome.specs.declared.Outcome.{Outcome}
use Rattle.host.specs.declared.HostOutcome.{HostOutcome}

-- "for each whether to the group, to which neighbour, to the caller (OrigNode's path) or, at length 0, nowhere": its number
abbrev pub way_number : Destination → ℕ
way_number Destination.nowhere = 0
way_number Destination.group = 1
way_number (Destination.neighbour a) = 2
way_number Destination.caller = 3

-- "to which neighbour": all zero for every other way
abbrev pub neighbour_in : Destination → Address
neighbour_in Destination.nowhere = zero_address
neighbour_in Destination.group = zero_address
neighbour_in (Destination.neighbour a) = a
neighbour_in Destination.caller = zero_address

-- an outcome as a host is told it
abbrev pub host_of : Outcome → HostOutcome
host_of r = record {
  answer = answer_number r.answer;
  seq = r.seq;
  forward_way = way_number (destination_of r.forward.to);
  reply_way = way_number (destination_of r.reply.to);
  forward_length = r.forward.size;
  reply_length = r.reply.size;
  clock = r.clock;
  forward_neighbour = neighbour_in (destination_of r.forward.to);
  reply_neighbour = neighbour_in (destination_of r.reply.to);
}

-- What a call gives a host: answer, lengths, destinations, clock and own number, both tables and both buffers whole, and the tally.
-- `res` is the plain node's result; a name with ' is what is lent as the call leaves it.
pub record HostGives (res : plain.Result) (rows rows' : List InstanceRow) (routes routes' : List RouteRow) (forward forward' reply reply' counts counts' : List ℕ) (r : HostOutcome) : Type 0 where
  pub answer : r.answer ≡ res.answer
  pub state : state_of r.clock r.seq rows' routes' ≡ res.state
  pub forward_length : r.forward_length ≡ length res.sent.forward
  pub reply_length : r.reply_length ≡ length res.sent.reply
  pub forward_way : r.forward_way ≡ way_number res.sent.forward_to
  pub reply_way : r.reply_way ≡ way_number res.sent.reply_to
  pub forward_neighbour : r.forward_neighbour ≡ neighbour_in res.sent.forward_to
  pub reply_neighbour : r.reply_neighbour ≡ neighbour_in res.sent.reply_to
  -- "Octets past the reported lengths keep what they held."
  pub forward_octets : forward' ≡ over res.sent.forward forward
  pub reply_octets : reply' ≡ over res.sent.reply reply
  -- each record is as it was, or is the one that is written for the row that it now means
  pub instances : Records rows rows'
  pub hops : RouteRecords routes routes'
  -- "1 to 17 change nothing but the tally": both tables are as they stood, with every bit
  pub kept : (res.answer ≡ 0 → ⊥) → (rows' ≡ rows) × (routes' ≡ routes)
  -- "eighteen 32-bit counts, one for each answer": the count of this answer is one more, wrapping
  pub tally : counts' ≡ raised res.answer counts
