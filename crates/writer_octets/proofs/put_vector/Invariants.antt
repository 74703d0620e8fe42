use mathlib.Core.Path.{◌≡◌}
use lib.ListN.{length, take}
use Rattle.lemmas.specs.Written.{Written}
use Rattle.plain.specs.Octets.{elided}
use Rattle.writer_octets.proofs.put_vector.Given as goal

abbrev pub invariant-loop-a : goal.invariant-loop-a
invariant-loop-a l = (length l.out ≡ length l.initial.out) × Written (elided l.compr (take l.a-index l.vector)) l.initial.out l.out l.at
