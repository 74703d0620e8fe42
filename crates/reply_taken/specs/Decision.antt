-- What the rules decide of a reply that was heard, from a state.
use Rattle.std.specs.Prelude.{ℕ}
use Rattle.plain.specs.Given.{Settings, Received, State}
use Rattle.plain.specs.Answers.{answer_of, view_of}
use Rattle.plain.specs.Octets.{Message}
use Rattle.plain.specs.Reply.{partner_of}
use Rattle.plain.specs.Plain.{Decision, lines_with, accept_with}
use Rattle.finish.specs.Gives.{decision_of}

-- "A reply", from 8 on
unfoldable pub reply_decision : Settings → State → ℕ → Received → Message → Decision
reply_decision x s t c m =
    decision_of (answer_of (lines_with x c m (view_of s) t (partner_of (view_of s) t m))) (accept_with x c m (view_of s) t (partner_of (view_of s) t m))
