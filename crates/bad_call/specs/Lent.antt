-- What is lent to a call.
use Rattle.std.specs.Prelude.{ℕ}
use Rattle.plain.specs.Given.{Lent}

-- the time, and of the two lent buffers their lengths
abbrev pub lent_by : ℕ → ℕ → ℕ → Lent
lent_by t forward reply = record { time = t; forward_room = forward; reply_room = reply }
