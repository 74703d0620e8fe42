use mathlib.Core.List.{map, flatten}
use mathlib.Core.Path.{◌≡◌}
use lib.ListN.{length, take}
use Rattle.lemmas.specs.Written.{Written}
use Rattle.plain.specs.Octets.{art_octets}
use Rattle.writer_art.proofs.put_arts.Given as goal

abbrev pub invariant-loop-t : goal.invariant-loop-t
invariant-loop-t l = (length l.out ≡ length l.initial.out) × Written (flatten (map art_octets (take l.t-index l.targets))) l.initial.out l.out l.at
