-- One call: what every call comes to, and two states that are alike, the second with at least as many rows in each table.
use Prim.Native.Nat.{ℕ, ◌≤◌}
use mathlib.Core.Path.{◌≡◌, refl, sym, ap₂}
use mathlib.Core.Bool.{Bool, true, false, cond, ◌&&◌}
use mathlib.Core.List.{List}
use mathlib.Core.Option.{Option}
use native.Mathlib.Omega.{arith}
use lib.Dec.{eqb}
use lib.ListN.{length}
use borrow.Author.Tests.{leb-true, le-leb}
use Rattle.plain.specs.Given.{Settings, Call, State}
use Rattle.plain.specs.Table.{live_rows, spare, has_room, instance_deadline, route_deadline}
use Rattle.plain.specs.Answers.{answer_of, View, view_of, good_instance, good_route, good_state}
use Rattle.plain.specs.Request.{Accepted}
use Rattle.plain.specs.Plain.{lines, accept, Decision, Result, nothing, refused_by, stored, decide, place, enact, step, seen_of}
use Rattle.lemmas.proofs.Choice.{true_false, and_left, and_right, and_both}
use Rattle.memory.proofs.Alike.{Alike, same_live, same_good, spare_more, placed_alike, alike_later}
use Rattle.memory.proofs.Lines.{accepted_time, decide_case}

-- neither table lacks a row
abbrev room : ℕ → Accepted → State → Bool
room t a s = has_room instance_deadline t a.instances s.instances && has_room route_deadline t a.routes s.routes

-- ---- What every call comes to

-- the first line that holds, else 0
abbrev pub refusal : Settings → State → Call → ℕ
refusal x s c = answer_of (lines x (good_state s) (view_of s) c.lent c.event)

abbrev pub outcome : Settings → State → Call → Accepted
outcome x s c = accept x (view_of s) c.lent c.event

-- What holds of a refusal by a line, of 17, and of what an accepted call leaves, holds of every call.
pub step_case : (P : Result → Type 0) (x : Settings) (s : State) (c : Call) → P (refused_by (refusal x s c) s) → P (refused_by 17 s)
    → (refusal x s c ≡ 0 → P (record { answer = 0; sent = (outcome x s c).sent; state = stored c.lent.time (outcome x s c) s }))
    → P (step x s c)
unfolding step enact place
step_case P x s c p q f =
    decide_case (λ (d : Decision). P (enact c.lent.time s d)) x (good_state s) (view_of s) c (λ e. go e (room c.lent.time (outcome x s c) s)) p
  where
    go : refusal x s c ≡ 0 → (b : Bool)
        → P (cond b (record { answer = 0; sent = (outcome x s c).sent; state = stored c.lent.time (outcome x s c) s }) (refused_by 17 s))
    go e true = f e
    go e false = q

-- a refusal keeps the state and sends nothing
pub refused_keeps : (x : Settings) (s : State) (c : Call) → ¬ ((step x s c).answer ≡ 0) → ((step x s c).state ≡ s) × ((step x s c).sent ≡ nothing)
refused_keeps x s c =
    step_case (λ (r : Result). ¬ (r.answer ≡ 0) → (r.state ≡ s) × (r.sent ≡ nothing)) x s c (λ n. (refl, refl)) (λ n. (refl, refl))
    (λ e n. absurd (n refl))

-- so a call answered 17 does
pub step_17 : (x : Settings) (c : Call) (s : State) → eqb (step x s c).answer 17 ≡ true → (step x s c).state ≡ s
step_17 x c s e = (refused_keeps x s c (λ z. true_false (sym (rw z at e)))).0

-- ---- Two states that are alike

-- by the clock
pub record Sim (s u : State) : Type 0 where
  pub clock : s.clock ≡ u.clock
  pub own : s.own ≡ u.own
  pub instances : Alike instance_deadline good_instance s.clock s.instances u.instances
  pub routes : Alike route_deadline good_route s.clock s.routes u.routes

-- alike results of a call, and what follows is alike
pub record Agree (p q : Result) : Type 0 where
  pub answer : p.answer ≡ q.answer
  pub sent : p.sent ≡ q.sent
  pub state : Sim p.state q.state

-- the rules see the same
sim_view : (s u : State) → Sim s u → view_of s ≡ view_of u
sim_view s u m = λ i. record {
  clock = m.clock i;
  own = m.own i;
  instances = rows instance_deadline good_instance s.instances u.instances m.instances i;
  routes = rows route_deadline good_route s.routes u.routes m.routes i;
}
  where
    rows : {A : Type 0} (deadline : A → Option ℕ) (good : A → Bool) (a b : List (Option A)) → Alike deadline good s.clock a b
        → live_rows deadline s.clock a ≡ live_rows deadline u.clock b
    rows deadline good a b h = rw (← m.clock) (same_live deadline good s.clock 0 a b h)

sim_good : (s u : State) → Sim s u → good_state s ≡ good_state u
sim_good s u m =
    ap₂ ◌&&◌ (same_good instance_deadline good_instance s.clock s.instances u.instances m.instances)
    (same_good route_deadline good_route s.clock s.routes u.routes m.routes)

pub seen_same : (p q : Result) → Agree p q → seen_of p ≡ seen_of q
seen_same p q m = λ i. record {
  answer = m.answer i;
  forward_length = length (m.sent i).forward;
  reply_length = length (m.sent i).reply;
  forward_to = (m.sent i).forward_to;
  reply_to = (m.sent i).reply_to;
  forward = (m.sent i).forward;
  reply = (m.sent i).reply;
  clock = (v i).clock;
  own = (v i).own;
  instances = (v i).instances;
  routes = (v i).routes;
}
  where
    v : view_of p.state ≡ view_of q.state
    v = sim_view p.state q.state m.state

-- ---- Placing

room_both : (t : ℕ) (a : Accepted) (s : State) → room t a s ≡ true
    → (length a.instances.new ≤ spare instance_deadline t s.instances) × (length a.routes.new ≤ spare route_deadline t s.routes)
room_both t a s r =
    let i : Bool = has_room instance_deadline t a.instances s.instances in
    let j : Bool = has_room route_deadline t a.routes s.routes in (
      leb-true (length a.instances.new) (spare instance_deadline t s.instances) (and_left i j r),
      leb-true (length a.routes.new) (spare route_deadline t s.routes) (and_right i j r),
    )

module _ (t : ℕ) (a : Accepted) (s u : State) (m : Sim s u) (h : s.clock ≤ t) where
  -- they are alike at the call's time
  later : {A : Type 0} (deadline : A → Option ℕ) (good : A → Bool) (a b : List (Option A)) → Alike deadline good s.clock a b → Alike deadline good t a b
  later deadline good a b k = alike_later deadline good s.clock t a b h k

  -- the second has room where the first has
  room_more : room t a s ≡ true → room t a u ≡ true
  room_more r =
      let k = room_both t a s r in
      and_both (has_room instance_deadline t a.instances u.instances) (has_room route_deadline t a.routes u.routes)
      (le-leb (length a.instances.new) (spare instance_deadline t u.instances)
      (omega (arith, k.0, spare_more instance_deadline good_instance t s.instances u.instances (later instance_deadline good_instance s.instances u.instances m.instances))))
      (le-leb (length a.routes.new) (spare route_deadline t u.routes)
      (omega (arith, k.1, spare_more route_deadline good_route t s.routes u.routes (later route_deadline good_route s.routes u.routes m.routes))))

  -- what is stored is alike
  stored_sim : room t a s ≡ true → Sim (stored t a s) (stored t a u)
  stored_sim r = record {
    clock = refl;
    own = refl;
    instances =
        placed_alike instance_deadline good_instance t a.instances.become a.instances.new 0 s.instances u.instances (later instance_deadline good_instance s.instances u.instances m.instances)
        (room_both t a s r).0;
    routes =
        placed_alike route_deadline good_route t a.routes.become a.routes.new 0 s.routes u.routes (later route_deadline good_route s.routes u.routes m.routes) (room_both t a s r).1;
  }

  place_more : eqb (place t a s).answer 17 ≡ false → Agree (place t a s) (place t a u)
  unfolding place
  place_more n = go (room t a s) refl n
    where
      go : (b : Bool) → room t a s ≡ b → eqb (place t a s).answer 17 ≡ false → Agree (place t a s) (place t a u)
      go true r n = rw (r, room_more r) (record { answer = refl; sent = refl; state = stored_sim r })
      go false r n = true_false (rw r at n)

-- ---- One call

-- an accepted call's time is not before the clock
abbrev InTime : ℕ → ℕ → Decision → Type 0
InTime clock t (Decision.refuse k) = Unit {0}
InTime clock t (Decision.take a) = clock ≤ t

enact_more : (t : ℕ) (s u : State) (d : Decision) → Sim s u → InTime s.clock t d → eqb (enact t s d).answer 17 ≡ false
    → Agree (enact t s d) (enact t u d)
unfolding enact
enact_more t s u (Decision.refuse k) m h n = record { answer = refl; sent = refl; state = m }
enact_more t s u (Decision.take a) m h n = place_more t a s u m h n

-- with more rows: alike, unless the first is answered 17
pub step_more : (x : Settings) (c : Call) (s u : State) → Sim s u → eqb (step x s c).answer 17 ≡ false → Agree (step x s c) (step x u c)
unfolding step
step_more x c s u m n = rw (← same) (enact_more c.lent.time s u (decide x (good_state s) (view_of s) c) m in-time n)
  where
    same : decide x (good_state s) (view_of s) c ≡ decide x (good_state u) (view_of u) c
    same = ap₂ (λ (good : Bool) (v : View). decide x good v c) (sim_good s u m) (sim_view s u m)

    in-time : InTime s.clock c.lent.time (decide x (good_state s) (view_of s) c)
    in-time =
        decide_case (InTime s.clock c.lent.time) x (good_state s) (view_of s) c
        (λ e. (accepted_time x (good_state s) (view_of s) c.lent c.event e).0) tt
