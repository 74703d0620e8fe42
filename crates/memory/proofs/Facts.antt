-- Facts about the rules.
use Prim.Native.Nat.{ℕ, ◌≤◌}
use mathlib.Core.List.{List, [], ◌∷◌}
use native.Mathlib.Omega.{arith}
use native.Mathlib.Nat.{le_refl}
use Rattle.plain.specs.Given.{Settings, Call, State}
use Rattle.plain.specs.Table.{instance_deadline, route_deadline}
use Rattle.plain.specs.Answers.{view_of, good_state}
use Rattle.plain.specs.Plain.{Result, step, fresh}
use Rattle.memory.specs.Facts.{state_after, RefusalKeeps, ClockRises, OwnNumber, Proper, NeverTwo}
use Rattle.memory.proofs.Lines.{accepted_time}
use Rattle.memory.proofs.Step.{refused_keeps, step_case}
use Rattle.memory.proofs.Tables.{unused_rows}
use Rattle.memory.proofs.Good.{GoodInstance, GoodRoute}
use Rattle.memory.proofs.Own.{Own, step_own}
use Rattle.memory.proofs.Keys.{instance_key, route_key, unused_distinct}
use Rattle.memory.proofs.Sound.{Sound, step_sound, sound_not_two}

pub refusal_keeps : RefusalKeeps
refusal_keeps = refused_keeps

pub clock_rises : ClockRises
clock_rises x s c =
    step_case (λ (r : Result). s.clock ≤ r.state.clock) x s c (le_refl s.clock) (le_refl s.clock)
    (λ e. (accepted_time x (good_state s) (view_of s) c.lent c.event e).0)

-- what each call of a list keeps, of the state and of the calls to come
keeps : (P : List Call → State → Type 0) (x : Settings) → ((s : State) (c : Call) (cs : List Call) → P (c ∷ cs) s → P cs (step x s c).state)
    → (s : State) (cs : List Call) → P cs s → P [] (state_after x s cs)
unfolding state_after
keeps P x f s [] p = p
keeps P x f s (c ∷ cs) p = keeps P x f (step x s c).state cs (f s c cs p)

pub own_number : OwnNumber
own_number x n m cs = keeps (λ (cs : List Call) (s : State). Own s.own) x (λ s c cs p. step_own x s c p) (fresh n m) cs (omega arith)

pub fresh_sound : (n m : ℕ) → Sound (fresh n m)
fresh_sound n m = record {
  own = omega arith;
  good = record { instances = unused_rows GoodInstance n; routes = unused_rows GoodRoute m };
  instances = unused_distinct instance_deadline instance_key 0 n;
  routes = unused_distinct route_deadline route_key 0 m;
}

pub never_two : NeverTwo
never_two x n m cs c o =
    let p =
    keeps (λ (cs : List Call) (s : State). Proper cs × Sound s) x (λ s c cs p. (p.0.1, step_sound x s c p.0.0 p.1)) (fresh n m) cs
    (o, fresh_sound n m) in
    sound_not_two x (state_after x (fresh n m) cs) c p.1
