-- 01, "What the promises must settle": the plain node. "A plain node is the rules alone .. Fed: settings, row counts, each call's arguments
-- (of the buffers only their lengths), no answers. State: as above. The first refusal that holds, in order, is a call's answer: lengths
-- zero, destinations nowhere, state kept. Else 0: the clock becomes the call's time; rows, own number, octets and destinations follow "A
-- request" (starts too) or "A reply"."
use Rattle.std.specs.Prelude.{ℕ, Bool, true, cond, ◌&&◌, List, [], ◌∷◌, eqb, length, replicate}
use Rattle.std.proofs.Math.Option.{Option, some, none}
use Rattle.plain.specs.Address.{unusable}
use Rattle.plain.specs.Given.{Settings, Lent, Received, Event, Call, RequestRow, Instance, Route, State, Destination, Sent}
use Rattle.plain.specs.Table.{Numbered, no_change, live_rows, has_room, placed, instance_deadline, route_deadline}
use Rattle.plain.specs.Answers.{Line, answer_of, View, view_of, bad_lent, long_message, bad_start, good_state, wrong_state}
use Rattle.plain.specs.Octets.{Message, malformed, unfit, base_of, message_of, too_many}
use Rattle.plain.specs.Request.{Accepted, asked, request_lines, accept_request, ours, start_targets, start_lines, accept_start}
use Rattle.plain.specs.Reply.{partner_of, answered, reply_lines, accept_reply}

-- ---- The answer table, but for 17

-- a reply: 8, "reply without a live partner request row of the same H", or the lines after it
abbrev pub lines_with : Settings → Received → Message → View → ℕ → Option (Numbered RequestRow) → List Line
lines_with x c m v t none = record { number = 8; holds = true } ∷ []
lines_with x c m v t (some p) = reply_lines x c m (answered x v t c m p.row)

-- the lines from 8 on
unfoldable pub message_lines : Settings → View → ℕ → Received → Message → List Line
message_lines x v t c m =
    cond m.discovery.reply (lines_with x c m v t (partner_of v t m)) (request_lines x c m (asked x v t c m))

-- every line, in order. `good`: no row in use is wrong.
unfoldable pub lines : Settings → Bool → View → Lent → Event → List Line
lines x good v c (Event.message r) =
    record { number = 1; holds = bad_lent x v.clock c }
    ∷ record { number = 1; holds = long_message r.octets }
    ∷ record { number = 2; holds = wrong_state good v }
    ∷ record { number = 3; holds = malformed r.octets }
    ∷ record { number = 4; holds = unfit r.octets }
    -- 5: "DODAGID link-local, multicast or all zero"
    ∷ record { number = 5; holds = unusable (base_of r.octets).dodagid }
    ∷ record { number = 6; holds = too_many (message_of r.octets) }
    -- 7: "DODAGID is one of our addresses (message)"
    ∷ record { number = 7; holds = ours x (base_of r.octets).dodagid }
    ∷ message_lines x v c.time r (message_of r.octets)
lines x good v c (Event.start s) =
    record { number = 1; holds = bad_lent x v.clock c }
    ∷ record { number = 1; holds = bad_start s (start_targets s) }
    ∷ record { number = 2; holds = wrong_state good v }
    ∷ start_lines x v c.time s

-- ---- The outcome of a call that no line refuses

-- "lengths zero, destinations nowhere"
abbrev pub nothing : Sent
nothing = record { forward = []; forward_to = Destination.nowhere; reply = []; reply_to = Destination.nowhere }

-- nothing sent, nothing changed
abbrev pub idle : View → Accepted
idle v = record { sent = nothing; own = v.own; instances = no_change; routes = no_change }

-- a reply's outcome; without a partner it is refused by 8
abbrev pub accept_with : Settings → Received → Message → View → ℕ → Option (Numbered RequestRow) → Accepted
accept_with x c m v t none = idle v
accept_with x c m v t (some p) = accept_reply x v.own t c m (answered x v t c m p.row)

-- a message's outcome: "rows, own number, octets and destinations follow" 01's "A request" or "A reply"
unfoldable pub accept_message : Settings → View → ℕ → Received → Message → Accepted
accept_message x v t c m =
    cond m.discovery.reply (accept_with x c m v t (partner_of v t m)) (accept_request x v.own t c m (asked x v t c m))

-- an event's outcome: a start's follows "A request" too
unfoldable pub accept : Settings → View → Lent → Event → Accepted
accept x v c (Event.message r) = accept_message x v c.time r (message_of r.octets)
accept x v c (Event.start s) = accept_start x v.own c.time s (start_targets s)

-- What the rules decide of a call: a refusal by its number, or an outcome whose new rows have no place yet. Of the tables they see nothing
-- but the live rows, and whether every row in use is good: not how many rows a table has.
pub data Decision : Type 0 where
  refuse : ℕ → Decision
  take : Accepted → Decision

-- "The first refusal that holds, in order, is a call's answer .. Else 0", but for 17
unfoldable pub decide : Settings → Bool → View → Call → Decision
decide x good v c =
    let k = answer_of (lines x good v c.lent c.event) in
    cond (eqb k 0) (Decision.take (accept x v c.lent c.event)) (Decision.refuse k)

-- ---- The placing, and 17

-- What a call comes to: its answer, what it sends and where to, and the state that it leaves.
pub record Result : Type 0 where
  pub answer : ℕ
  pub sent : Sent
  pub state : State

-- "lengths zero, destinations nowhere, state kept"
abbrev pub refused_by : ℕ → State → Result
refused_by k s = record { answer = k; sent = nothing; state = s }

-- "An accepted call's time becomes the last time."
abbrev pub stored : ℕ → Accepted → State → State
stored t a s = record {
  clock = t;
  own = a.own;
  instances = placed instance_deadline t a.instances s.instances;
  routes = placed route_deadline t a.routes s.routes;
}

-- 17: "no row: more rows needed than are not live, in either table". The only place that sees how many rows there are.
unfoldable pub place : ℕ → Accepted → State → Result
place t a s =
    cond (has_room instance_deadline t a.instances s.instances && has_room route_deadline t a.routes s.routes)
    (record { answer = 0; sent = a.sent; state = stored t a s })
    (refused_by 17 s)

-- "1 to 17 change nothing but the tally"; else the rows are placed
unfoldable pub enact : ℕ → State → Decision → Result
enact t s (Decision.refuse k) = refused_by k s
enact t s (Decision.take a) = place t a s

-- ---- One call, and a list of calls

-- The plain node's answer to one call, from any state.
unfoldable pub step : Settings → State → Call → Result
step x s c = enact c.lent.time s (decide x (good_state s) (view_of s) c)

-- "own sequence number (fresh 240), clock (.. fresh 0), instance rows and route rows (fresh: none in use)"
abbrev pub fresh : ℕ → ℕ → State
fresh n m = record { clock = 0; own = 240; instances = replicate n none; routes = replicate m none }

-- What is seen after a call: "answer number, both lengths, destinations, both buffers up to those lengths, clock, own sequence number, and
-- the live rows, by row number and fields" (demand 3). "After a call a row is live by the clock as left."
pub record Seen : Type 0 where
  pub answer : ℕ
  pub forward_length : ℕ
  pub reply_length : ℕ
  pub forward_to : Destination
  pub reply_to : Destination
  pub forward : List ℕ
  pub reply : List ℕ
  pub clock : ℕ
  pub own : ℕ
  pub instances : List (Numbered Instance)
  pub routes : List (Numbered Route)

-- what is seen of a result
abbrev pub seen_of : Result → Seen
seen_of r = record {
  answer = r.answer;
  forward_length = length r.sent.forward;
  reply_length = length r.sent.reply;
  forward_to = r.sent.forward_to;
  reply_to = r.sent.reply_to;
  forward = r.sent.forward;
  reply = r.sent.reply;
  clock = r.state.clock;
  own = r.state.own;
  instances = live_rows instance_deadline r.state.clock r.state.instances;
  routes = live_rows route_deadline r.state.clock r.state.routes;
}

-- the plain node fed a list of calls, from a state
unfoldable pub run : Settings → State → List Call → List Seen
run x s [] = []
run x s (c ∷ cs) = seen_of (step x s c) ∷ run x (step x s c).state cs

-- the plain node, fresh, with so many rows in each table, fed a list of calls
abbrev pub plain : Settings → ℕ → ℕ → List Call → List Seen
plain x n m cs = run x (fresh n m) cs
