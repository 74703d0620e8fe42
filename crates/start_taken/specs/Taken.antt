-- What the rules decide of a start, from a state.
use Rattle.std.specs.Prelude.{ℕ, ◌≤◌, ◌^◌, List, length}
use Rattle.plain.specs.Given.{Settings, Start, State}
use Rattle.plain.specs.Answers.{answer_of, view_of}
use Rattle.plain.specs.Blank.{Padded}
use Rattle.plain.specs.Request.{start_lines, accept_start}
use Rattle.plain.specs.Plain.{Decision}
use Rattle.plain.specs.declared.Target.{Target}
use Rattle.targets.specs.declared.Targets.{Targets}
use Rattle.start.specs.Start.{Sendable}
use Rattle.start.specs.declared.Asking.{Asking}
use Rattle.finish.specs.Gives.{decision_of}

-- What holds of a start where neither 1 nor 2 is answered.
pub record TakenStart (clock t : ℕ) (forward reply : List ℕ) (s : Asking) (ts : Targets) : Type 0 where
  pub later : clock ≤ t
  pub forward_room : 1236 ≤ length forward
  pub reply_room : 1236 ≤ length reply
  pub time : t ≤ 2 ^ 40
  pub sendable : Sendable s ts
  pub padded : Padded ts.count ts.list

-- "A start", from 10 on: `targets` are its targets without repeats
unfoldable pub start_decision : Settings → State → ℕ → Start → List Target → Decision
start_decision x s t c targets = decision_of (answer_of (start_lines x (view_of s) t c)) (accept_start x s.own t c targets)
