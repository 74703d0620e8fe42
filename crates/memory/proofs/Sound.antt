-- What calls leave, from a fresh node, is never a wrong state (answer 2).
use Prim.Native.Nat.{ℕ}
use mathlib.Core.Path.{◌≡◌, refl, sym}
use mathlib.Core.Bool.{Bool, true, false, cond, ◌&&◌}
use mathlib.Core.List.{List, [], ◌∷◌}
use mathlib.Core.Option.{Option, some, none}
use native.Mathlib.Omega.{arith}
use lib.Dec.{eqb}
use borrow.Author.Tests.{eqb-true, eq-eqb, ne_eqb}
use Rattle.plain.specs.Lists.{any_two, same}
use Rattle.plain.specs.Given.{Settings, Lent, Received, Event, Call, RequestRow, Route, State}
use Rattle.plain.specs.Table.{Numbered, Change, placed, instance_deadline, route_deadline}
use Rattle.plain.specs.Answers.{Line, answer_of, View, view_of, good_instance, good_route, all_good, good_state, requests, replies, request_twins, reply_twins, route_twins, wrong_state}
use Rattle.plain.specs.Octets.{Message, message_of}
use Rattle.plain.specs.Request.{asked, request_lines, start_lines}
use Rattle.plain.specs.Reply.{partner_of, reply_lines}
use Rattle.plain.specs.Plain.{lines_with, message_lines, lines, Result, step}
use Rattle.lemmas.proofs.Choice.{cond_case, true_false, and_left, and_right, and_both}
use Rattle.lemmas.proofs.Same.{same_equal}
use Rattle.memory.specs.Facts.{ProperEvent}
use Rattle.lemmas.specs.Each.{Each}
use Rattle.lemmas.proofs.Each.{Pairs, pairs_none, pairs_weaken}
use Rattle.memory.proofs.Lines.{accepted_time}
use Rattle.memory.proofs.Tables.{Rows, Writes, rows_good, rows_live, placed_rows, writes_become}
use Rattle.memory.proofs.Good.{GoodInstance, GoodRoute, accept_writes}
use Rattle.memory.proofs.Keys.{instance_key, route_key, key_path, Distinct, distinct_live, keyed_placed}
use Rattle.memory.proofs.Kind.{request_kind, reply_kind_lem, apart_test, no_twins}
use Rattle.memory.proofs.Apart.{accept_apart}
use Rattle.memory.proofs.Step.{outcome, step_case}
use Rattle.memory.proofs.Own.{Own, step_own}

-- ---- Each row in use is good

pub record GoodRows (s : State) : Type 0 where
  pub instances : Rows GoodInstance s.instances
  pub routes : Rows GoodRoute s.routes

good_state_lem : (s : State) → GoodRows s → good_state s ≡ true
good_state_lem s g =
    and_both (all_good good_instance s.instances) (all_good good_route s.routes) (rows_good good_instance s.instances g.instances)
    (rows_good good_route s.routes g.routes)

placed_good : {A : Type 0} (deadline : A → Option ℕ) (P : A → Type 0) (t : ℕ) (change : Change A) (rows : List (Option A)) → Writes P change
    → Rows P rows → Rows P (placed deadline t change rows)
placed_good deadline P t change rows w g =
    placed_rows deadline P t change.become change.new 0 rows g (writes_become deadline P t change.become 0 rows w.0 g) w.1

step_good : (x : Settings) (s : State) (c : Call) → ProperEvent c.event → GoodRows s → GoodRows (step x s c).state
step_good x s c o g = step_case (λ (r : Result). GoodRows r.state) x s c g g λ e.
    let w = accept_writes x (good_state s) (view_of s) c.lent c.event o
    (rows_live instance_deadline GoodInstance s.clock 0 s.instances g.instances) e in
    record {
      instances = placed_good instance_deadline GoodInstance c.lent.time (outcome x s c).instances s.instances w.0 g.instances;
      routes = placed_good route_deadline GoodRoute c.lent.time (outcome x s c).routes s.routes w.1 g.routes;
    }

-- ---- A sound state

-- own number not 0, each row in use good, no two live rows of the same key
pub record Sound (s : State) : Type 0 where
  pub own : Own s.own
  pub good : GoodRows s
  pub instances : Distinct instance_deadline instance_key s.clock s.instances
  pub routes : Distinct route_deadline route_key s.clock s.routes

-- ---- Every call keeps a state sound

record Apart (s : State) : Type 0 where
  instances : Distinct instance_deadline instance_key s.clock s.instances
  routes : Distinct route_deadline route_key s.clock s.routes

step_apart : (x : Settings) (s : State) (c : Call) → Apart s → Apart (step x s c).state
step_apart x s c d = step_case (λ (r : Result). Apart r.state) x s c d d λ e.
    let h = (accepted_time x (good_state s) (view_of s) c.lent c.event e).0 in
    let w = accept_apart x (good_state s) s c.lent c.event e h in
    record {
      instances = keyed_placed instance_deadline instance_key s.clock c.lent.time (outcome x s c).instances s.instances h w.0
          d.instances;
      routes = keyed_placed route_deadline route_key s.clock c.lent.time (outcome x s c).routes s.routes h w.1 d.routes;
    }

pub step_sound : (x : Settings) (s : State) (c : Call) → ProperEvent c.event → Sound s → Sound (step x s c).state
step_sound x s c o g =
    let d = step_apart x s c (record { instances = g.instances; routes = g.routes }) in
    record { own = step_own x s c g.own; good = step_good x s c o g.good; instances = d.instances; routes = d.routes }

-- ---- A sound state is not wrong

no_routes : (ns : List (Numbered Route)) → Pairs (λ (n m : Numbered Route). route_key m.row ≡ route_key n.row → ⊥) ns
    → any_two route_twins ns ≡ false
no_routes ns h =
    pairs_none route_twins ns
    (pairs_weaken (λ (n m : Numbered Route). route_key m.row ≡ route_key n.row → ⊥) (λ (n m : Numbered Route). route_twins n m ≡ false) two ns h)
  where
    two : (n m : Numbered Route) → (route_key m.row ≡ route_key n.row → ⊥) → route_twins n m ≡ false
    two n m f = apart_test (route_twins n m) (route_key n.row) (route_key m.row) equal f
      where
        equal : route_twins n m ≡ true → route_key m.row ≡ route_key n.row
        equal e =
            let a : Bool = same n.row.source m.row.source in
            let b : Bool = same n.row.destination m.row.destination in
            let c : Bool = eqb n.row.instance m.row.instance in
            let k = and_left (a && b) c e in
            key_path 2 m.row.instance n.row.instance m.row.source n.row.source m.row.destination n.row.destination
            (sym (eqb-true n.row.instance m.row.instance (and_right (a && b) c e)))
            (sym (same_equal n.row.source m.row.source (and_left a b k)))
            (sym (same_equal n.row.destination m.row.destination (and_right a b k)))

sound_right : (s : State) → Sound s → wrong_state (good_state s) (view_of s) ≡ false
unfolding wrong_state
sound_right s g =
    let ns = (view_of s).instances in
    let d = distinct_live instance_deadline instance_key s.clock 0 s.instances g.instances in
    let none-asked : any_two request_twins (requests ns) ≡ false = no_twins request_kind ns d in
    let none-answered : any_two reply_twins (replies ns) ≡ false = no_twins reply_kind_lem ns d in
    rw (
      good_state_lem s g.good,
      ne_eqb s.own 0 (λ e. omega (arith, g.own.0)),
      none-asked,
      none-answered,
      no_routes (view_of s).routes (distinct_live route_deadline route_key s.clock 0 s.routes g.routes),
    )

-- ---- 2 is answered in a wrong state alone

-- a line of another number, or one that does not hold
abbrev NotTwo : Line → Type 0
NotTwo l = eqb l.number 2 && l.holds ≡ false

not_two : (ls : List Line) → Each NotTwo ls → answer_of ls ≡ 2 → ⊥
unfolding answer_of
not_two [] h e = omega arith
not_two (l ∷ ls) h e = go l.holds h.0 e (not_two ls h.1)
  where
    go : (b : Bool) → eqb l.number 2 && b ≡ false → cond b l.number (answer_of ls) ≡ 2 → (answer_of ls ≡ 2 → ⊥) → ⊥
    go true f e k = true_false (rw (eq-eqb l.number 2 e) at f)
    go false f e k = k e

with_not_two : (x : Settings) (c : Received) (m : Message) (v : View) (t : ℕ) (p : Option (Numbered RequestRow)) → Each NotTwo (lines_with x c m v t p)
unfolding reply_lines
with_not_two x c m v t none = (refl, tt)
with_not_two x c m v t (some p) = (refl, (refl, (refl, (refl, (refl, (refl, (refl, tt)))))))

request_not_two : (x : Settings) (v : View) (t : ℕ) (c : Received) (m : Message) → Each NotTwo (request_lines x c m (asked x v t c m))
unfolding request_lines
request_not_two x v t c m = (refl, (refl, (refl, (refl, (refl, (refl, (refl, (refl, tt))))))))

lines_not_two : (x : Settings) (good : Bool) (v : View) (c : Lent) (e : Event) → wrong_state good v ≡ false → Each NotTwo (lines x good v c e)
unfolding lines message_lines start_lines
lines_not_two x good v c (Event.message r) w =
    let m : Message = message_of r.octets in (
      refl,
      (
        refl,
        (
          w,
          (
            refl,
            (
              refl,
              (
                refl,
                (
                  refl,
                  (
                    refl,
                    cond_case (Each NotTwo) m.discovery.reply (lines_with x r m v c.time (partner_of v c.time m))
                        (request_lines x r m (asked x v c.time r m))
                        (λ e. with_not_two x r m v c.time (partner_of v c.time m)) (λ e. request_not_two x v c.time r m),
                  ),
                ),
              ),
            ),
          ),
        ),
      ),
    )
lines_not_two x good v c (Event.start s) w = (refl, (refl, (w, (refl, (refl, tt)))))

pub sound_not_two : (x : Settings) (s : State) (c : Call) → Sound s → (step x s c).answer ≡ 2 → ⊥
sound_not_two x s c g =
    step_case (λ (r : Result). r.answer ≡ 2 → ⊥) x s c
    (not_two (lines x (good_state s) (view_of s) c.lent c.event)
    (lines_not_two x (good_state s) (view_of s) c.lent c.event (sound_right s g)))
    (λ e. omega arith) (λ z e. omega arith)
