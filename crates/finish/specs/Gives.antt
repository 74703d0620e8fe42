-- What a call gives: the plain node's result, in the lent tables and buffers.
use Rattle.std.specs.Prelude.{ℕ, ◌≤◌, ◌≡◌, ◌⊎◌, cond, List, map, eqb, length, get_or, option_map, IfSome}
use Rattle.lemmas.specs.Written.{over}
use Rattle.plain.specs.Address.{Address}
use Rattle.plain.specs.Given.{Settings, State}
use Rattle.plain.specs.Request.{Accepted}
use Rattle.plain.specs.Plain as plain
use Rattle.answer.specs.Answer.{answer_number, destination_of}
use Rattle.row.specs.Meaning.{instance_of, route_of, route_in, no_row, no_route}
use Rattle.row.specs.Record.{reply_record, route_record}
use Rattle.row.specs.declared.InstanceRow.{InstanceRow}
use Rattle.row.specs.declared.ReplyFields.{ReplyFields}
use Rattle.row.specs.declared.RouteRow.{RouteRow}
use Rattle.row.specs.Fields.{reply_in}
use Rattle.decision.specs.Decision.{Fits, Posts, instance_meant, record_of}
use Rattle.decision.specs.declared.Post.{Post}
use Rattle.decision.specs.declared.Decided.{Decided}
use Rattle.place.specs.Places.{HasRow, HasRoute, row_change, hop_change}
use Rattle.message.specs.declared.Live.{Live}
use Rattle.outcome.specs.declared.Outcome.{Outcome}

-- the state that clock, own number and the lent tables are
abbrev pub state_of : ℕ → ℕ → List InstanceRow → List RouteRow → State
state_of clock own rows routes = record { clock = clock; own = own; instances = map instance_of rows; routes = map route_of routes }

-- what the rules decide, where k is the first line that holds
abbrev pub decision_of : ℕ → Accepted → plain.Decision
decision_of k acc = cond (eqb k 0) (plain.Decision.take acc) (plain.Decision.refuse k)

-- each record is as it was, or is the one that is written for the row that it now means
abbrev pub Records : List InstanceRow → List InstanceRow → Type 0
Records rows after =
    (i : ℕ) → (get_or after i no_row ≡ get_or rows i no_row) ⊎ (record_of (instance_meant (get_or after i no_row)) ≡ get_or after i no_row)

abbrev pub RouteRecords : List RouteRow → List RouteRow → Type 0
RouteRecords routes after =
    (i : ℕ) → (get_or after i no_route ≡ get_or routes i no_route) ⊎ (route_record (route_in (get_or after i no_route)) ≡ get_or after i no_route)

-- What a call gives: answer, lengths, destinations, clock and own number, both tables and both buffers whole.
pub record Gives (res : plain.Result) (rows rows' : List InstanceRow) (routes routes' : List RouteRow) (forward forward' reply reply' : List ℕ) (r : Outcome) : Type 0 where
  pub answer : answer_number r.answer ≡ res.answer
  pub state : state_of r.clock r.seq rows' routes' ≡ res.state
  pub forward_length : r.forward.size ≡ length res.sent.forward
  pub reply_length : r.reply.size ≡ length res.sent.reply
  pub forward_to : destination_of r.forward.to ≡ res.sent.forward_to
  pub reply_to : destination_of r.reply.to ≡ res.sent.reply_to
  -- "Octets past the reported lengths keep what they held."
  pub forward_octets : forward' ≡ over res.sent.forward forward
  pub reply_octets : reply' ≡ over res.sent.reply reply
  pub instances : Records rows rows'
  pub hops : RouteRecords routes routes'
  -- "After a refusal .. tables .. are as they stood", with every bit
  pub kept : (res.answer ≡ 0 → ⊥) → (rows' ≡ rows) × (routes' ≡ routes)

-- ---- What the proof of finish asks; the inspector need not read on

-- the record of a reply row that is stored
abbrev pub second_record : ReplyFields → InstanceRow
second_record f = reply_record (reply_in f)

-- what must hold of a call that is finished
pub record Ready (x : Settings) (t : ℕ) (rows : List InstanceRow) (routes : List RouteRow) (forward reply : List ℕ) (vector : List Address) (there back : Post) (l : Live) : Type 0 where
  pub row : HasRow rows t l.row
  pub route : HasRoute routes t l.route
  pub forward_room : 1236 ≤ length forward
  pub reply_room : 1236 ≤ length reply
  pub places : length vector ≡ 16
  pub forward_fits : Fits x there vector
  pub reply_fits : Fits x back vector

-- what is stored and sent is the rules' `acc`
pub record Settled (x : Settings) (vector : List Address) (acc : Accepted) (l : Live) (d : Decided) (there back : Post) : Type 0 where
  pub forward : Posts x vector acc.sent.forward acc.sent.forward_to there
  pub reply : Posts x vector acc.sent.reply acc.sent.reply_to back
  pub own : d.seq ≡ acc.own
  pub instances : row_change l.row (instance_meant d.row) (option_map reply_in d.second) ≡ acc.instances
  pub routes : hop_change l.route (option_map route_in d.route) ≡ acc.routes
  pub row : record_of (instance_meant d.row) ≡ d.row
  pub route : IfSome d.route (λ r. route_record (route_in r) ≡ r)
