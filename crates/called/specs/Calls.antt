-- A public call: what it is handed, what it leaves, and what it promises.
use Rattle.std.specs.Prelude.{ℕ, List, length}
use Rattle.plain.specs.Given.{Event, Call}
use Rattle.plain.specs.Plain.{step}
use Rattle.plain.specs.declared.Target.{Target}
use Rattle.own.specs.Settings.{settings_of}
use Rattle.own.specs.declared.Own.{Own}
use Rattle.row.specs.declared.InstanceRow.{InstanceRow}
use Rattle.row.specs.declared.RouteRow.{RouteRow}
use Rattle.message.specs.Message.{received_by}
use Rattle.message.specs.declared.Link.{Link}
use Rattle.start.specs.Start.{start_of}
use Rattle.start.specs.declared.Asking.{Asking}
use Rattle.bad_call.specs.Lent.{lent_by}
use Rattle.finish.specs.Gives.{state_of, Gives}
use Rattle.outcome.specs.declared.Outcome.{Outcome}

-- ---- What the plain node is fed: of the two lent buffers only their lengths

-- "a received DIO body (after the ICMPv6 header)"
abbrev pub message_call : ℕ → ℕ → ℕ → Link → List ℕ → Call
message_call t forward reply k octets = record { lent = lent_by t forward reply; event = Event.message (received_by k octets) }

-- "or the start of our own discovery"
abbrev pub start_call : ℕ → ℕ → ℕ → Asking → List Target → Call
start_call t forward reply s targets = record { lent = lent_by t forward reply; event = Event.start (start_of s targets) }

-- ---- A real call

-- "One call handles one event": `message` is handed a link and octets, `start` what is asked for and targets.
pub data Asked : Type 0 where
  message : Link → List ℕ → Asked
  start : Asking → List Target → Asked

-- "tables, clock and own sequence number", as the host keeps them between calls: one record for each row
pub record Node : Type 0 where
  pub clock : ℕ
  pub seq : ℕ
  pub instances : List InstanceRow
  pub routes : List RouteRow

-- What one call was handed, and what it left and returned.
pub record Called : Type 0 where
  pub time : ℕ
  pub asked : Asked
  pub before : Node
  pub instances_after : List InstanceRow
  pub routes_after : List RouteRow
  pub forward_before : List ℕ
  pub forward_after : List ℕ
  pub reply_before : List ℕ
  pub reply_after : List ℕ
  pub outcome : Outcome  -- answer, lengths, destinations, and clock and own number as it left them

-- "each call's arguments (of the buffers only their lengths)"
abbrev pub fed_with : ℕ → ℕ → ℕ → Asked → Call
fed_with t forward reply (Asked.message k octets) = message_call t forward reply k octets
fed_with t forward reply (Asked.start s targets) = start_call t forward reply s targets

abbrev pub fed : Called → Call
fed e = fed_with e.time (length e.forward_before) (length e.reply_before) e.asked

-- The contract of both public calls: "one input has one outcome: number, lengths, destinations, both buffers, rows, clock, own number", and
-- that is what the plain node gives, fed the same from the same state.
abbrev pub Promised : Own → Called → Type 0
Promised o e =
    Gives
    (step (settings_of o) (state_of e.before.clock e.before.seq e.before.instances e.before.routes) (fed e))
    e.before.instances
    e.instances_after
    e.before.routes
    e.routes_after
    e.forward_before
    e.forward_after
    e.reply_before
    e.reply_after
    e.outcome
