use mathlib.Core.Bool.{not}
use Rattle.plain.specs.Request.{matches_us}
use Rattle.plain.specs.declared.Target.{Target}
use Rattle.own.specs.Settings.{settings_of}
use Rattle.kept.proofs.Sifted.{Keeping}
use Rattle.matching.proofs.not_ours.Given as goal

abbrev pub invariant-loop-t : goal.invariant-loop-t
invariant-loop-t l = Keeping (λ (t : Target). not (matches_us (settings_of l.o) t)) l.t-items l.t-index l.kept
