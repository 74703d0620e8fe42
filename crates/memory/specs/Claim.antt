-- Demand 3: "More memory never changes an answer." One claim about lists of calls.
use Rattle.std.specs.Prelude.{ℕ, ◌≤◌, ◌≡◌, cond, List, [], ◌∷◌, ◌++◌, map, eqb, length, take, drop, replicate}
use Rattle.std.proofs.Math.Option.{none}
use Rattle.plain.specs.Given.{Settings, Call, State, Destination}
use Rattle.plain.specs.Table.{live_rows, instance_deadline, route_deadline}
use Rattle.plain.specs.Plain.{Seen, seen_of, step, fresh, plain}

-- ---- A real call

-- What was there before a real call and after it.
pub record Done : Type 0 where
  pub call : Call  -- its arguments; of the buffers their lengths
  pub before : State  -- tables, clock and own sequence number, as the call was given them
  pub after : State  -- and as it left them
  pub forward_before : List ℕ  -- both buffers, whatever stood in them, and as they were left
  pub forward_after : List ℕ
  pub reply_before : List ℕ
  pub reply_after : List ℕ
  pub answer : ℕ  -- what it returned
  pub forward_length : ℕ
  pub reply_length : ℕ
  pub forward_to : Destination
  pub reply_to : Destination

-- The promise of one call: what it left and returned is what the plain node gives from the same state. "Octets past the reported lengths
-- keep what they held" (01).
pub record Kept (x : Settings) (e : Done) : Type 0 where
  pub state : e.after ≡ (step x e.before e.call).state
  pub answer : e.answer ≡ (step x e.before e.call).answer
  pub forward_length : e.forward_length ≡ length (step x e.before e.call).sent.forward
  pub reply_length : e.reply_length ≡ length (step x e.before e.call).sent.reply
  pub forward_to : e.forward_to ≡ (step x e.before e.call).sent.forward_to
  pub reply_to : e.reply_to ≡ (step x e.before e.call).sent.reply_to
  pub forward : e.forward_after ≡ (step x e.before e.call).sent.forward ++ drop e.forward_length e.forward_before
  pub reply : e.reply_after ≡ (step x e.before e.call).sent.reply ++ drop e.reply_length e.reply_before

-- ---- Lists of calls

-- "Each call gets the tables, clock and own sequence number that the last one left, and nobody else writes them meanwhile": real calls
-- from a state, each of which keeps its promise.
abbrev pub Ran : Settings → State → List Done → Type 0
Ran x s [] = Unit {0}
Ran x s (e ∷ es) = (e.before ≡ s) × Kept x e × Ran x e.after es

-- "A fresh node, with any settings and any number of rows in each table": clock 0, own number 240, and every row is not in use.
pub record Fresh (s : State) : Type 0 where
  pub clock : s.clock ≡ 0
  pub own : s.own ≡ 240
  pub instances : s.instances ≡ replicate (length s.instances) none
  pub routes : s.routes ≡ replicate (length s.routes) none

-- "Strike out the calls answered 17, for want of a table row": the calls that are left.
unfoldable pub left : List Done → List Done
left [] = []
left (e ∷ es) = cond (eqb e.answer 17) (left es) (e ∷ left es)

-- What is seen after a real call: "answer number, both lengths, destinations, both buffers up to those lengths, clock, own sequence number,
-- and the live rows, by row number and fields". "After a call a row is live by the clock as left" (01).
abbrev pub after : Done → Seen
after e = record {
  answer = e.answer;
  forward_length = e.forward_length;
  reply_length = e.reply_length;
  forward_to = e.forward_to;
  reply_to = e.reply_to;
  forward = take e.forward_length e.forward_after;
  reply = take e.reply_length e.reply_after;
  clock = e.after.clock;
  own = e.after.own;
  instances = live_rows instance_deadline e.after.clock e.after.instances;
  routes = live_rows route_deadline e.after.clock e.after.routes;
}

-- the arguments that a list of calls was fed
abbrev pub calls : List Done → List Call
calls es = map (λ (e : Done). e.call) es

-- ---- The claim

-- `es`: what a first node did, from s. `fs`: what a second one did, from u.
pub record MoreMemory (x : Settings) (s u : State) (es fs : List Done) : Type 0 where
  -- "after every call of either list these are exactly what 01's plain node, fed that list with as many rows, gives"
  pub first : map after es ≡ plain x (length s.instances) (length s.routes) (calls es)
  pub second : map after fs ≡ plain x (length u.instances) (length u.routes) (calls fs)
  -- "For every call left in, they are alike in both runs."
  pub alike : map after (left es) ≡ map after fs

abbrev pub Claim : Type 0
Claim =
    -- "for every list of calls, refused ones included: received messages and starts of our own discovery, in any order, with anything in
    -- them"; "Whatever stood in buffers and in rows not in use"
    (x : Settings) (s u : State) (es fs : List Done)
    -- "A fresh node, with any settings and any number of rows in each table, is fed the list."
    → Fresh s → Ran x s es
    -- "A second fresh node, with the same settings"
    → Fresh u → Ran x u fs
    -- "and at least as many rows in each table"
    → length s.instances ≤ length u.instances → length s.routes ≤ length u.routes
    -- "is fed the rest alike, with buffers as long as before": a call holds the lengths of its buffers
    → calls fs ≡ calls (left es)
    → MoreMemory x s u es fs

-- ---- The same of the plain node alone

-- the calls that the plain node, from a state, does not answer 17, and what is seen after those
unfoldable pub left_calls : Settings → State → List Call → List Call
left_calls x s [] = []
left_calls x s (c ∷ cs) =
    cond (eqb (step x s c).answer 17) (left_calls x (step x s c).state cs) (c ∷ left_calls x (step x s c).state cs)

unfoldable pub left_seen : Settings → State → List Call → List Seen
left_seen x s [] = []
left_seen x s (c ∷ cs) =
    cond (eqb (step x s c).answer 17) (left_seen x (step x s c).state cs) (seen_of (step x s c) ∷ left_seen x (step x s c).state cs)

-- n and m rows in the first node's tables, k and l in the second's
abbrev pub PlainClaim : Type 0
PlainClaim =
    (x : Settings) (n m k l : ℕ) (cs : List Call) → n ≤ k → m ≤ l
    → left_seen x (fresh n m) cs ≡ plain x k l (left_calls x (fresh n m) cs)

-- ---- There are such runs

-- of any calls, from any state, with any octets in the buffers
abbrev pub Runs : Type 0
Runs =
    (x : Settings) (s : State) (cs : List Call) (forward reply : Call → List ℕ)
    → (es : List Done)
    × Ran x s es
    × (calls es ≡ cs)
    × (map (λ (e : Done). e.forward_before) es ≡ map forward cs)
    × (map (λ (e : Done). e.reply_before) es ≡ map reply cs)
