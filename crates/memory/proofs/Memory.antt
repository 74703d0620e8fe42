-- More memory never changes an answer.
use Prim.Native.Nat.{ℕ, ◌≤◌}
use mathlib.Core.Path.{◌≡◌, refl, sym, ap, ap₂, ◌∙◌}
use mathlib.Core.Bool.{Bool, true, false, cond}
use mathlib.Core.List.{List, [], ◌∷◌, ◌++◌, map}
use lib.Dec.{eqb}
use lib.ListN.{length, take, drop}
use lib.Seq.{take_at}
use Rattle.plain.specs.Given.{Settings, Call, State}
use Rattle.plain.specs.Table.{live_rows, instance_deadline, route_deadline}
use Rattle.plain.specs.Answers.{good_instance, good_route}
use Rattle.plain.specs.Plain.{step, seen_of, run, plain, fresh}
use Rattle.memory.specs.Claim.{Done, Kept, Ran, Fresh, left, after, calls, Claim, left_calls, left_seen, PlainClaim, Runs}
use Rattle.memory.proofs.Alike.{unused_alike}
use Rattle.memory.proofs.Step.{Sim, seen_same, step_more, step_17}

-- ---- A real call that keeps its promise shows what the plain node shows

shows : (x : Settings) (e : Done) → Kept x e → after e ≡ seen_of (step x e.before e.call)
shows x e k = λ i. record {
  answer = k.answer i;
  forward_length = k.forward_length i;
  reply_length = k.reply_length i;
  forward_to = k.forward_to i;
  reply_to = k.reply_to i;
  forward = (ap (take e.forward_length) k.forward ∙ front e.forward_length (step x e.before e.call).sent.forward e.forward_before
      k.forward_length) i;
  reply = (ap (take e.reply_length) k.reply ∙ front e.reply_length (step x e.before e.call).sent.reply e.reply_before
      k.reply_length) i;
  clock = (k.state i).clock;
  own = (k.state i).own;
  instances = live_rows instance_deadline (k.state i).clock (k.state i).instances;
  routes = live_rows route_deadline (k.state i).clock (k.state i).routes;
}
  where
    front : (n : ℕ) (xs ds : List ℕ) → n ≡ length xs → take n (xs ++ drop n ds) ≡ xs
    front n xs ds e = take_at xs (drop n ds) n (sym e)

shows_at : (x : Settings) (s : State) (e : Done) → e.before ≡ s → Kept x e → after e ≡ seen_of (step x s e.call)
shows_at x s e b k = shows x e k ∙ ap (λ (z : State). seen_of (step x z e.call)) b

leaves : (x : Settings) (s : State) (e : Done) → e.before ≡ s → Kept x e → e.after ≡ (step x s e.call).state
leaves x s e b k = k.state ∙ ap (λ (z : State). (step x z e.call).state) b

ran_run : (x : Settings) (s : State) (es : List Done) → Ran x s es → map after es ≡ run x s (calls es)
unfolding run
ran_run x s [] r = refl
ran_run x s (e ∷ es) r =
    ap₂ ◌∷◌ (shows_at x s e r.0 r.1) (ran_run x e.after es r.2 ∙ ap (λ (z : State). run x z (calls es)) (leaves x s e r.0 r.1))

-- ---- What is left of the first run, against the second node

left_run : (x : Settings) (es : List Done) (s u : State) → Ran x s es → Sim s u → map after (left es) ≡ run x u (calls (left es))
unfolding left run
left_run x [] s u r m = refl
left_run x (e ∷ es) s u r m = go (eqb e.answer 17) refl (λ v w. left_run x es e.after v r.2 w)
  where
    said : e.answer ≡ (step x s e.call).answer
    said = r.1.answer ∙ ap (λ (z : State). (step x z e.call).answer) r.0

    stands : e.after ≡ (step x s e.call).state
    stands = leaves x s e r.0 r.1

    go : (b : Bool) → eqb e.answer 17 ≡ b → ((v : State) → Sim e.after v → map after (left es) ≡ run x v (calls (left es)))
        → map after (cond b (left es) (e ∷ left es)) ≡ run x u (calls (cond b (left es) (e ∷ left es)))
    go true q f = f u (rw (stands ∙ step_17 x e.call s (rw said at q)) m)
    go false q f =
        let g = step_more x e.call s u m (rw said at q) in
        ap₂ ◌∷◌ (shows_at x s e r.0 r.1 ∙ seen_same (step x s e.call) (step x u e.call) g)
        (f (step x u e.call).state (rw stands g.state))

-- ---- Fresh nodes

-- a fresh node is the plain node's fresh state
pub fresh_is : (s : State) → Fresh s → s ≡ fresh (length s.instances) (length s.routes)
fresh_is s f = λ i. record { clock = f.clock i; own = f.own i; instances = f.instances i; routes = f.routes i }

fresh_sim : (n m k l : ℕ) → n ≤ k → m ≤ l → Sim (fresh n m) (fresh k l)
fresh_sim n m k l h j = record {
  clock = refl;
  own = refl;
  instances = unused_alike instance_deadline good_instance 0 n k h;
  routes = unused_alike route_deadline good_route 0 m l j;
}

as_plain : (x : Settings) (s : State) (es : List Done) → Fresh s → Ran x s es
    → map after es ≡ plain x (length s.instances) (length s.routes) (calls es)
as_plain x s es f r = ran_run x s es r ∙ ap (λ (z : State). run x z (calls es)) (fresh_is s f)

pub more_memory : Claim
more_memory x s u es fs f r g w h j c = record {
  first = as_plain x s es f r;
  second = as_plain x u fs g w;
  alike = left_run x es s u r sim ∙ sym (ran_run x u fs w ∙ ap (run x u) c);
}
  where
    sim : Sim s u
    sim = rw (fresh_is s f, fresh_is u g) (fresh_sim (length s.instances) (length s.routes) (length u.instances) (length u.routes) h j)

-- ---- The plain node alone

left_plain : (x : Settings) (cs : List Call) (s u : State) → Sim s u → left_seen x s cs ≡ run x u (left_calls x s cs)
unfolding left_seen left_calls run
left_plain x [] s u m = refl
left_plain x (c ∷ cs) s u m = go (eqb (step x s c).answer 17) refl (left_plain x cs (step x s c).state)
  where
    after_c : State
    after_c = (step x s c).state

    go : (b : Bool) → eqb (step x s c).answer 17 ≡ b → ((v : State) → Sim after_c v → left_seen x after_c cs ≡ run x v (left_calls x after_c cs))
        → cond b (left_seen x after_c cs) (seen_of (step x s c) ∷ left_seen x after_c cs) ≡ run x u
        (cond b (left_calls x after_c cs) (c ∷ left_calls x after_c cs))
    go true q f = f u (rw (step_17 x c s q) m)
    go false q f = let g = step_more x c s u m q in ap₂ ◌∷◌ (seen_same (step x s c) (step x u c) g) (f (step x u c).state g.state)

pub plain_more : PlainClaim
plain_more x n m k l cs h j = left_plain x cs (fresh n m) (fresh k l) (fresh_sim n m k l h j)

-- ---- There are such runs

pub runs : Runs
runs x s [] forward reply = ([], tt, refl, refl, refl)
runs x s (c ∷ cs) forward reply =
    let z = step x s c in
    let r = runs x z.state cs forward reply in
    let e : Done = record {
      call = c;
      before = s;
      after = z.state;
      forward_before = forward c;
      forward_after = z.sent.forward ++ drop (length z.sent.forward) (forward c);
      reply_before = reply c;
      reply_after = z.sent.reply ++ drop (length z.sent.reply) (reply c);
      answer = z.answer;
      forward_length = length z.sent.forward;
      reply_length = length z.sent.reply;
      forward_to = z.sent.forward_to;
      reply_to = z.sent.reply_to;
    } in (
      e ∷ r.0,
      (refl, record { state = refl; answer = refl; forward_length = refl; reply_length = refl; forward_to = refl; reply_to = refl; forward = refl; reply = refl }, r.1),
      ap (λ (k : List Call). c ∷ k) r.2,
      ap (λ (k : List (List ℕ)). forward c ∷ k) r.3,
      ap (λ (k : List (List ℕ)). reply c ∷ k) r.4,
    )
