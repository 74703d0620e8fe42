-- A message as the code holds it.
use Rattle.std.specs.Prelude.{ℕ, List, Option}
use Rattle.lemmas.specs.Optional.{of_option}
use Rattle.plain.specs.Address.{Address}
use Rattle.plain.specs.Octets.{Message}
use Rattle.plain.specs.declared.Target.{Target}
use Rattle.plain.specs.declared.Base.{Base}
use Rattle.plain.specs.declared.Discovery.{Discovery}

-- the message of a base, a Configuration if there is one, an RREQ or RREP, a vector and targets
abbrev pub message_from : Base → Option (List ℕ) → Discovery → List Address → List Target → Message
message_from base configuration d vector targets = record {
  base = base;
  configuration = of_option configuration;
  discovery = d;
  vector = vector;
  targets = targets;
}
