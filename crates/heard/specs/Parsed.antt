-- A message that is heard, as the rules take it.
use Rattle.std.specs.Prelude.{ℕ, ◌-◌, ◌/◌, Option, Some, None}
use Rattle.reader.specs.declared.Reading.{Reading}
use Rattle.reader.specs.declared.Refusal.{Refusal}
use Rattle.reader.specs.Reading.{refusal_number}
use Rattle.message.specs.declared.Parsed.{Parsed}

-- the fields of a message but for its vector, of whose addresses there are as many as its octets make
unfoldable pub parsed_of : Reading → Parsed
parsed_of r = record {
  base = r.base;
  configuration = r.configuration;
  discovery = r.discovery;
  n = r.size / (16 - r.discovery.compr);
  count = r.count;
  targets = r.targets;
}

-- "Answer numbers": what the octets alone give, 0 where they are heard
abbrev pub octets_number : Option Refusal → ℕ
octets_number None = 0
octets_number (Some refusal) = refusal_number refusal
