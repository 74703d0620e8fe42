-- The lines of the table that a start is asked.
use Prim.Native.Nat.{ℕ}
use mathlib.Core.Path.{◌≡◌, refl}
use mathlib.Core.List.{List}
use Rattle.plain.specs.Lists.{given}
use Rattle.plain.specs.Given.{Settings}
use Rattle.plain.specs.Answers.{View, answer_of, live_request}
use Rattle.plain.specs.Request.{start_lines}
use Rattle.plain.specs.declared.Target.{Target}
use Rattle.start.specs.Start.{start_of, start_answer}
use Rattle.start.specs.declared.Asking.{Asking}

-- the answer is the first line that holds, where it is told whether a row of its key is live
pub lines_of : (x : Settings) (v : View) (t : ℕ) (s : Asking) (targets : List Target)
    → answer_of (start_lines x v t (start_of s targets)) ≡ start_answer x s (given (live_request v t s.instance x.receiving))
unfolding start_lines answer_of start_answer
lines_of x v t s targets = refl
