-- What the rules decide of a request that was heard, from a state.
use Rattle.std.specs.Prelude.{ℕ}
use Rattle.plain.specs.Given.{Settings, Received, State}
use Rattle.plain.specs.Answers.{answer_of, view_of}
use Rattle.plain.specs.Octets.{Message}
use Rattle.plain.specs.Request.{asked, request_lines, accept_request}
use Rattle.plain.specs.Plain.{Decision}
use Rattle.finish.specs.Gives.{decision_of}

-- "A request", from 9 on
unfoldable pub request_decision : Settings → State → ℕ → Received → Message → Decision
request_decision x s t c m =
    decision_of (answer_of (request_lines x c m (asked x (view_of s) t c m))) (accept_request x s.own t c m (asked x (view_of s) t c m))
