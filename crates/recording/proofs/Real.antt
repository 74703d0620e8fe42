-- A real call that meets its contract is one of those that the claim about the rules speaks of (crate memory).
use Prim.Native.Nat.{ℕ}
use mathlib.Core.Path.{◌≡◌, refl, sym, ap, ap₂, ◌∙◌}
use mathlib.Core.Bool.{Bool, true, false, cond}
use mathlib.Core.List.{List, [], ◌∷◌, ◌++◌, map, map-map}
use mathlib.Core.Option.{Option, none}
use lib.Dec.{eqb}
use lib.ListN.{length, drop, replicate}
use Rattle.plain.specs.Given.{State}
use Rattle.plain.specs.Plain.{step}
use Rattle.memory.specs.Claim as rules
use Rattle.answer.specs.Answer.{answer_number, destination_of}
use Rattle.own.specs.Settings.{settings_of}
use Rattle.own.specs.declared.Own.{Own}
use Rattle.row.specs.Meaning.{instance_of, route_of}
use Rattle.finish.specs.Gives.{state_of}
use Rattle.called.specs.Calls.{Node, Called, fed, Promised}
use Rattle.recording.specs.Recording.{node_after, Recorded, Unused, Fresh, left, seen, calls}

-- the state that a node's values mean
abbrev pub state_in : Node → State
state_in n = state_of n.clock n.seq n.instances n.routes

abbrev pub done : Called → rules.Done
done e = record {
  call = fed e;
  before = state_in e.before;
  after = state_in (node_after e);
  forward_before = e.forward_before;
  forward_after = e.forward_after;
  reply_before = e.reply_before;
  reply_after = e.reply_after;
  answer = answer_number e.outcome.answer;
  forward_length = e.outcome.forward.size;
  reply_length = e.outcome.reply.size;
  forward_to = destination_of e.outcome.forward.to;
  reply_to = destination_of e.outcome.reply.to;
}

abbrev pub dones : List Called → List rules.Done
dones es = map done es

-- ---- Its contract is the promise of the claim

pub kept : (o : Own) (e : Called) → Promised o e → rules.Kept (settings_of o) (done e)
kept o e p = record {
  state = p.state;
  answer = p.answer;
  forward_length = p.forward_length;
  reply_length = p.reply_length;
  forward_to = p.forward_to;
  reply_to = p.reply_to;
  forward = p.forward_octets ∙ ap (λ (k : ℕ). (step (settings_of o) (state_in e.before) (fed e)).sent.forward ++ drop k e.forward_before) (sym p.forward_length);
  reply = p.reply_octets ∙ ap (λ (k : ℕ). (step (settings_of o) (state_in e.before) (fed e)).sent.reply ++ drop k e.reply_before) (sym p.reply_length);
}

pub ran : (o : Own) (n : Node) (es : List Called) → Recorded o n es → rules.Ran (settings_of o) (state_in n) (dones es)
ran o n [] r = tt
ran o n (e ∷ es) r = (ap state_in r.0, kept o e r.1, ran o (node_after e) es r.2)

-- ---- A fresh node

unused : {A B : Type 0} (meaning : A → Option B) (rows : List A) → Unused meaning rows
    → map meaning rows ≡ replicate (length (map meaning rows)) none
unused meaning [] u = refl
unused meaning (r ∷ rows) u = ap₂ ◌∷◌ u.0 (unused meaning rows u.1)

pub fresh : (n : Node) → Fresh n → rules.Fresh (state_in n)
fresh n f = record {
  clock = f.clock;
  own = f.own;
  instances = unused instance_of n.instances f.instances;
  routes = unused route_of n.routes f.routes;
}

-- ---- What is seen, what was fed, what is left

pub seen_is : (es : List Called) → map rules.after (dones es) ≡ seen es
seen_is es = map-map rules.after done es

pub calls_is : (es : List Called) → rules.calls (dones es) ≡ calls es
calls_is es = map-map (λ (e : rules.Done). e.call) done es

pub left_is : (es : List Called) → rules.left (dones es) ≡ dones (left es)
unfolding left rules.left
left_is [] = refl
left_is (e ∷ es) = go (eqb (answer_number e.outcome.answer) 17) (left_is es)
  where
    go : (b : Bool) → rules.left (dones es) ≡ dones (left es)
        → cond b (rules.left (dones es)) (done e ∷ rules.left (dones es)) ≡ dones (cond b (left es) (e ∷ left es))
    go true q = q
    go false q = ap (λ (ds : List rules.Done). done e ∷ ds) q
