-- Facts about the rules that a reader would ask for.
use Rattle.std.specs.Prelude.{ℕ, ◌≤◌, ◌<◌, ◌≡◌, List, [], ◌∷◌}
use Rattle.plain.specs.Given.{Settings, Event, Call, State}
use Rattle.plain.specs.Plain.{nothing, step, fresh}
use Rattle.lemmas.specs.Each.{Octets}

-- the state that a list of calls leaves
unfoldable pub state_after : Settings → State → List Call → State
state_after x s [] = s
state_after x s (c ∷ cs) = state_after x (step x s c).state cs

-- "After a refusal both lengths are zero, and tables, buffers, own sequence number and clock are as they stood" (demand 1), from any state.
abbrev pub RefusalKeeps : Type 0
RefusalKeeps = (x : Settings) (s : State) (c : Call) → ¬ ((step x s c).answer ≡ 0) → ((step x s c).state ≡ s) × ((step x s c).sent ≡ nothing)

-- The clock never falls, from any state.
abbrev pub ClockRises : Type 0
ClockRises = (x : Settings) (s : State) (c : Call) → s.clock ≤ (step x s c).state.clock

-- From a fresh node the own sequence number is never 0 and fits an octet.
abbrev pub OwnNumber : Type 0
OwnNumber =
    (x : Settings) (n m : ℕ) (cs : List Call) → (0 < (state_after x (fresh n m) cs).own) × ((state_after x (fresh n m) cs).own < 256)

-- A call's octets fit their type: every call that code can make is so. Other numbers are as they come.
abbrev pub ProperEvent : Event → Type 0
ProperEvent (Event.message r) = Octets r.octets
ProperEvent (Event.start s) = Unit {0}

abbrev pub Proper : List Call → Type 0
Proper [] = Unit {0}
Proper (c ∷ cs) = ProperEvent c.event × Proper cs

-- From a fresh node no call is ever answered 2: what proper calls leave is never a wrong state.
abbrev pub NeverTwo : Type 0
NeverTwo = (x : Settings) (n m : ℕ) (cs : List Call) (c : Call) → Proper cs → ¬ ((step x (state_after x (fresh n m) cs) c).answer ≡ 2)
