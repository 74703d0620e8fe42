-- What the parts of a decision come to.
use mathlib.Core.Path.{◌≡◌, refl}
use mathlib.Core.List.{List, []}
use native.Mathlib.Omega.{arith}
use lib.ListN.{length, take}
use lib.Seq.{length-take-le}
use Rattle.plain.specs.Address.{Address}
use Rattle.plain.specs.Given.{Settings, Destination}
use Rattle.message.specs.declared.Parsed.{Parsed}
use Rattle.writer_option.specs.Sendable.{Sendable}
use Rattle.decision.specs.Blank.{no_post}
use Rattle.decision.specs.Decision.{Posts, post_octets}
use Rattle.rule.specs.Heard.{Heard}

-- ---- What is sent

-- a message that was heard could be written, with its own vector
pub heard_sendable : (p : Parsed) (vector : List Address) → length vector ≡ 16 → Heard p
    → Sendable p.discovery (length (take p.n vector))
heard_sendable p vector e h =
    rw (length-take-le p.n vector (omega (arith, h.addresses)))
    (record { compr = h.compr; addresses = h.addresses; octets = h.octets })

-- nothing is sent, nowhere
pub posts_nothing : (x : Settings) (vector : List Address) → Posts x vector [] Destination.nowhere no_post
unfolding post_octets
posts_nothing x vector = record { sends = refl; goes = refl; fits = tt }
