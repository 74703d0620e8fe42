-- A host's calls: what each promises, demand 3 of lists of them, and the tally.
use Rattle.std.specs.Prelude.{ℕ, ◌<◌, ◌≤◌, ◌≡◌, cond, List, [], ◌∷◌, map, eqb, length, get_or}
use Rattle.plain.specs.Address.{Address}
use Rattle.plain.specs.Given.{Settings, Call, State, Destination}
use Rattle.plain.specs.Plain.{Result, step}
use Rattle.plain.specs.Tally.{answers, cleared, tally_of}
use Rattle.memory.specs.Claim.{Done, Kept, Fresh, left, calls, MoreMemory}
use Rattle.row.specs.declared.InstanceRow.{InstanceRow}
use Rattle.row.specs.declared.RouteRow.{RouteRow}
use Rattle.finish.specs.Gives.{state_of}
use Rattle.host.specs.Host.{HostGives}
use Rattle.host.specs.declared.HostOutcome.{HostOutcome}

-- What an exported call was given and what it left; a name with ' is what is lent as the call leaves it.
pub record HostCall : Type 0 where
  pub settings : Settings
  pub call : Call  -- its arguments; of the buffers their lengths
  pub clock : ℕ
  pub seq : ℕ
  pub rows : List InstanceRow
  pub rows' : List InstanceRow
  pub routes : List RouteRow
  pub routes' : List RouteRow
  pub forward : List ℕ
  pub forward' : List ℕ
  pub reply : List ℕ
  pub reply' : List ℕ
  pub counts : List ℕ
  pub counts' : List ℕ
  pub told : HostOutcome

-- what the plain node gives, from the same state
abbrev pub result_of : HostCall → Result
result_of e = step e.settings (state_of e.clock e.seq e.rows e.routes) e.call

-- what every exported call promises
abbrev pub HostPromised : HostCall → Type 0
HostPromised e =
    HostGives (result_of e) e.rows e.rows' e.routes e.routes' e.forward e.forward' e.reply e.reply' e.counts e.counts' e.told

-- ---- Demand 3

-- the destination that a host is told: 0 nowhere, 1 group, 2 neighbour, 3 caller
abbrev pub told_to : ℕ → Address → Destination
told_to way a =
    cond (eqb way 1) Destination.group (cond (eqb way 2) (Destination.neighbour a) (cond (eqb way 3) Destination.caller Destination.nowhere))

-- the call as demand 3's claim sees it
abbrev pub done_by : HostCall → Done
done_by e = record {
  call = e.call;
  before = state_of e.clock e.seq e.rows e.routes;
  after = state_of e.told.clock e.told.seq e.rows' e.routes';
  forward_before = e.forward;
  forward_after = e.forward';
  reply_before = e.reply;
  reply_after = e.reply';
  answer = e.told.answer;
  forward_length = e.told.forward_length;
  reply_length = e.told.reply_length;
  forward_to = told_to e.told.forward_way e.told.forward_neighbour;
  reply_to = told_to e.told.reply_way e.told.reply_neighbour;
}

-- memory's claim is about lists of calls that are `Kept`
abbrev pub Keeps : Type 0
Keeps = (e : HostCall) → HostPromised e → Kept e.settings (done_by e)

-- "Each call gets the tables, clock and own sequence number that the last one left, and nobody else writes them meanwhile": a host's calls
-- of one node, with its settings, from a state, each of which keeps its promise.
abbrev pub HostRan : Settings → State → List HostCall → Type 0
HostRan x s [] = Unit {0}
HostRan x s (e ∷ es) = (e.settings ≡ x) × ((done_by e).before ≡ s) × HostPromised e × HostRan x (done_by e).after es

-- "More memory never changes an answer", of the calls that a host makes: `es`, of a first node from s, and `fs`, of a second one from u.
-- `Fresh`, `left`, `calls` and `MoreMemory` are memory's (specs/Claim.antt), each with its words.
abbrev pub HostClaim : Type 0
HostClaim =
    (x : Settings) (s u : State) (es fs : List HostCall)
    -- "A fresh node, with any settings and any number of rows in each table, is fed the list."
    → Fresh s → HostRan x s es
    -- "A second fresh node, with the same settings and at least as many rows in each table"
    → Fresh u → HostRan x u fs
    → length s.instances ≤ length u.instances → length s.routes ≤ length u.routes
    -- "is fed the rest alike, with buffers as long as before"
    → calls (map done_by fs) ≡ calls (left (map done_by es))
    → MoreMemory x s u (map done_by es) (map done_by fs)

-- ---- The tally

-- Calls, of one node or of several, that are lent one tally in turn, from counts to counts'. Nobody else writes it meanwhile.
abbrev pub Tallies : List ℕ → List HostCall → List ℕ → Type 0
Tallies counts [] counts' = counts' ≡ counts
Tallies counts (e ∷ es) counts' = (e.counts ≡ counts) × HostPromised e × Tallies e.counts' es counts'

-- "From a cleared tally, each count is the number of calls so answered, modulo 2^32."
abbrev pub TallyClaim : Type 0
TallyClaim =
    (es : List HostCall) (counts' : List ℕ) → Tallies cleared es counts'
    → (k : ℕ) → k < answers → get_or counts' k 0 ≡ tally_of (map (λ (e : HostCall). e.told.answer) es) k
