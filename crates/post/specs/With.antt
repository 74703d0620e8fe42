-- A message with other addresses than it came with.
use Rattle.std.specs.Prelude.{List, take}
use Rattle.plain.specs.Address.{Address}
use Rattle.plain.specs.Octets.{Message}
use Rattle.lemmas.specs.Optional.{of_option}
use Rattle.message.specs.declared.Parsed.{Parsed}

-- a message with these addresses
abbrev pub message_with : Parsed → List Address → Message
message_with m v = record {
  base = m.base;
  configuration = of_option m.configuration;
  discovery = m.discovery;
  vector = v;
  targets = take m.count m.targets;
}
