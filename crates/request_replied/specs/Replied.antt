-- What is said of our reply.
use Rattle.std.specs.Prelude.{ℕ, ◌≤◌, ◌≡◌, List, []}
use Rattle.plain.specs.Address.{Address}
use Rattle.plain.specs.Given.{Settings}
use Rattle.plain.specs.Request.{reply_message}
use Rattle.message.specs.Message.{message_in, received_by}
use Rattle.message.specs.declared.Parsed.{Parsed}
use Rattle.message.specs.declared.Link.{Link}

-- It is the rules', with as much of the message's vector.
pub record Replied (x : Settings) (k : Link) (p : Parsed) (own delta : ℕ) (r : Parsed) : Type 0 where
  pub means : (vector : List Address) → message_in r vector ≡ reply_message x own (received_by k []) (message_in p vector) delta
  pub addresses : r.n ≤ p.n
  pub targets : r.count ≤ 8
