use Rattle.plain.specs.Lists.{any}
use Rattle.plain.specs.Octets.{same_target}
use Rattle.plain.specs.declared.Target.{Target}
use Rattle.kept.specs.Kept.{list_of}
use Rattle.kept.proofs.Sifted.{Keeping}
use Rattle.kept.proofs.common.Given as goal

abbrev pub invariant-loop-t : goal.invariant-loop-t
invariant-loop-t l = Keeping (λ (t : Target). any (same_target t) (list_of l.row)) l.t-items l.t-index l.kept
