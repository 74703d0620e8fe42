-- What holds of every message that was heard: no 6, its RREQ or RREP came in an option, Compr has four bits and Prefix Length seven. Past
-- its targets the list is blank. No invariant of Parsed says it: heard's `parsed` makes one of any Reading, read from a message or not.
use Rattle.std.specs.Prelude.{◌≤◌, ◌*◌, ◌-◌, ◌≡◌, true, false, List, length, take}
use Rattle.plain.specs.Address.{Address}
use Rattle.plain.specs.Blank.{Padded}
use Rattle.lemmas.specs.Each.{WholeVector}
use Rattle.writer_option.specs.Sendable.{short_prefixes}
use Rattle.message.specs.declared.Parsed.{Parsed}

pub record Heard (p : Parsed) : Type 0 where
  pub addresses : p.n ≤ 16
  pub octets : p.discovery.h ≡ false → p.n * (16 - p.discovery.compr) ≤ 252
  pub compr : p.discovery.compr ≤ 15
  pub targets : p.count ≤ 8
  pub prefixes : short_prefixes (take p.count p.targets) ≡ true
  pub padded : Padded p.count p.targets

-- What holds of the array that a vector stands in, by its type: sixteen places, each of sixteen octets.
pub record Array (vector : List Address) : Type 0 where
  pub places : length vector ≡ 16
  pub whole : WholeVector vector
