-- What a decision means: what the rules send and store.
use Rattle.std.specs.Prelude.{ℕ, ◌≤◌, ◌≡◌, Bool, true, false, cond, List, [], reverse, eqb, length, take, option_map, IfSome}
use Rattle.std.proofs.Math.Option.{Option}
use Rattle.plain.specs.Address.{Address}
use Rattle.plain.specs.Given.{Settings, Instance, Route, Destination}
use Rattle.plain.specs.Table.{Numbered, Change, put}
use Rattle.plain.specs.Octets.{Message, octets_of, elided}
use Rattle.plain.specs.Request.{Accepted, grown}
use Rattle.answer.specs.Answer.{destination_of}
use Rattle.row.specs.Meaning.{request_of, reply_of, route_in}
use Rattle.row.specs.Record.{request_record, reply_record, route_record}
use Rattle.row.specs.Fields.{reply_in}
use Rattle.row.specs.Change.{with_second, with_route}
use Rattle.row.specs.declared.InstanceRow.{InstanceRow}
use Rattle.writer_option.specs.Sendable.{Sendable, short_prefixes}
use Rattle.lemmas.specs.Optional.{of_option}
use Rattle.message.specs.declared.Parsed.{Parsed}
use Rattle.decision.specs.declared.Post.{Post}
use Rattle.decision.specs.declared.Post.TheVariants.{Nothing, Dio, Path}
use Rattle.decision.specs.declared.Decided.{Decided}

-- ---- What goes into a buffer

-- the addresses of a message that is sent: the first of the received ones, with ours added where it has grown
unfoldable pub post_vector : Settings → Parsed → Bool → List Address → List Address
post_vector x m has_grown vector = cond has_grown (grown x false (take m.n vector)) (take m.n vector)

unfoldable pub post_message : Settings → Parsed → Bool → List Address → Message
post_message x m has_grown vector = record {
  base = m.base;
  configuration = of_option m.configuration;
  discovery = m.discovery;
  vector = post_vector x m has_grown vector;
  targets = take m.count m.targets;
}

-- "in the vector's order if symmetric, turned round if asymmetric"
unfoldable pub post_path : ℕ → Bool → List Address → List Address
post_path n turned vector = cond turned (reverse (take n vector)) (take n vector)

unfoldable pub post_octets : Settings → Post → List Address → List ℕ
post_octets x Nothing vector = []
post_octets x (Dio m has_grown to) vector = octets_of (post_message x m has_grown vector)
post_octets x (Path n turned) vector = elided 0 (post_path n turned vector)

-- "to the caller (OrigNode's path) or, at length 0, nowhere"
abbrev pub post_to : Post → Destination
post_to Nothing = Destination.nowhere
post_to (Dio m has_grown to) = destination_of to
post_to (Path n turned) = Destination.caller

-- What must hold so that a message can be written: "past 16 addresses or 252 octets" is 16, and a message has at most 8 targets.
pub record Writable (x : Settings) (m : Parsed) (has_grown : Bool) (vector : List Address) : Type 0 where
  pub received : m.n ≤ 16
  pub sendable : Sendable m.discovery (length (post_vector x m has_grown vector))
  pub targets : m.count ≤ 8
  pub prefixes : short_prefixes (take m.count m.targets) ≡ true

-- what must hold so that a post can be written: a path has no more addresses than a vector
abbrev pub Fits : Settings → Post → List Address → Type 0
Fits x Nothing vector = Unit {0}
Fits x (Dio m has_grown to) vector = Writable x m has_grown vector
Fits x (Path n turned) vector = n ≤ 16

-- A post is the rules': what it sends, where to, and that it can be written.
pub record Posts (x : Settings) (vector : List Address) (octets : List ℕ) (to : Destination) (p : Post) : Type 0 where
  pub sends : post_octets x p vector ≡ octets
  pub goes : post_to p ≡ to
  pub fits : Fits x p vector

-- ---- What is stored

-- the row that a record to be stored means, and the record that is written for a row
unfoldable pub instance_meant : InstanceRow → Instance
instance_meant r = cond (eqb r.kind 1) (Instance.request (request_of r)) (Instance.reply (reply_of r))

unfoldable pub record_of : Instance → InstanceRow
record_of (Instance.request r) = request_record r
record_of (Instance.reply r) = reply_record r

-- what becomes of the tables, where the live row of the call's key and the live route are given
unfoldable pub instances_by : {B : Type 0} → Option (Numbered B) → Decided → Change Instance
instances_by found d = with_second (put found (instance_meant d.row)) (option_map reply_in d.second)

unfoldable pub routes_by : Option (Numbered Route) → Decided → Change Route
routes_by found d = with_route found (option_map route_in d.route)

-- What is stored is the rules' `acc`. Each record is the one that is written for its row; that of the reply row is made
-- from its fields where it is stored.
pub record Stores {B : Type 0} (acc : Accepted) (found : Option (Numbered B)) (hop : Option (Numbered Route)) (d : Decided) : Type 0 where
  pub own : d.seq ≡ acc.own
  pub instances : instances_by found d ≡ acc.instances
  pub routes : routes_by hop d ≡ acc.routes
  pub row : record_of (instance_meant d.row) ≡ d.row
  pub route : IfSome d.route (λ r. route_record (route_in r) ≡ r)
