-- A message that is sent.
use Prim.Native.Nat.{◌≤◌}
use mathlib.Core.Path.{◌≡◌, refl, ap}
use mathlib.Core.Bool.{Bool, true, false}
use mathlib.Core.List.{List}
use lib.ListN.{length}
use Rattle.plain.specs.Address.{Address}
use Rattle.plain.specs.Given.{Settings, Destination}
use Rattle.plain.specs.Octets.{Message, octets_of}
use Rattle.answer.specs.Answer.{destination_of}
use Rattle.answer.specs.declared.Destination as code
use Rattle.writer_option.specs.Sendable.{Sendable, short_prefixes}
use Rattle.message.specs.Message.{message_in}
use Rattle.message.specs.declared.Parsed.{Parsed}
use Rattle.decision.specs.Decision.{Posts, post_vector, post_message, post_octets}
use Rattle.decision.specs.declared.Post.TheVariants.{Dio}

pub dio_posts : (x : Settings) (v : List Address) (p : Parsed) (has_grown : Bool) (dest : code.Destination) (m : Message) (to : Destination)
    → post_message x p has_grown v ≡ m
    → destination_of dest ≡ to
    → p.n ≤ 16
    → p.count ≤ 8
    → Sendable m.discovery (length m.vector)
    → short_prefixes m.targets ≡ true
    → Posts x v (octets_of m) to (Dio p has_grown dest)
unfolding post_octets post_message post_vector
dio_posts x v p has_grown dest m to em et hn hc hs hp = record {
  sends = ap octets_of em;
  goes = et;
  fits = record {
    received = hn;
    sendable = rw (← em) at hs;
    targets = hc;
    prefixes = rw (← em) at hp;
  };
}

-- a message with its vector as it is
pub plain_message : (x : Settings) (m : Parsed) (v : List Address) → post_message x m false v ≡ message_in m v
unfolding post_message post_vector message_in
plain_message x m v = refl
