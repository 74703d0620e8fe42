-- Facts about real calls and recordings that a reader would ask for.
use Rattle.std.specs.Prelude.{◌≤◌, ◌<◌, ◌≡◌, List, [], ◌∷◌}
use Rattle.memory.specs.Facts.{Proper}
use Rattle.answer.specs.Answer.{answer_number}
use Rattle.own.specs.declared.Own.{Own}
use Rattle.called.specs.Calls.{Node, Called, Promised}
use Rattle.recording.specs.Recording.{Recorded, Fresh, node_after, calls}

-- "After a refusal both lengths are zero, and tables, buffers, own sequence number and clock are as they stood" (demand 1).
pub record Unchanged (e : Called) : Type 0 where
  pub forward_length : e.outcome.forward.size ≡ 0
  pub reply_length : e.outcome.reply.size ≡ 0
  pub node : node_after e ≡ e.before
  pub forward : e.forward_after ≡ e.forward_before
  pub reply : e.reply_after ≡ e.reply_before

-- of each call, from any tables, clock and own number
abbrev pub RefusalKeeps : Type 0
RefusalKeeps = (o : Own) (e : Called) → Promised o e → ¬ (answer_number e.outcome.answer ≡ 0) → Unchanged e

-- The clock never falls, from any tables, clock and own number.
abbrev pub ClockRises : Type 0
ClockRises = (o : Own) (e : Called) → Promised o e → e.before.clock ≤ e.outcome.clock

-- each call leaves an own number that is not 0 and fits an octet
abbrev pub OwnNumbers : List Called → Type 0
OwnNumbers [] = Unit {0}
OwnNumbers (e ∷ es) = (0 < e.outcome.seq) × (e.outcome.seq < 256) × OwnNumbers es

-- so each call from a fresh node
abbrev pub OwnNumber : Type 0
OwnNumber = (o : Own) (n : Node) (es : List Called) → Fresh n → Recorded o n es → OwnNumbers es

-- no call is answered 2
abbrev pub NoTwos : List Called → Type 0
NoTwos [] = Unit {0}
NoTwos (e ∷ es) = ¬ (answer_number e.outcome.answer ≡ 2) × NoTwos es

-- so each call from a fresh node; the octets of each message are below 256, as all that code can be handed are
abbrev pub NeverTwo : Type 0
NeverTwo = (o : Own) (n : Node) (es : List Called) → Fresh n → Recorded o n es → Proper (calls es) → NoTwos es
