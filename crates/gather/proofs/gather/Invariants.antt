use lib.ListN.{drop}
use Rattle.gather.proofs.Steps.{Underway}
use Rattle.gather.proofs.gather.Given as goal

abbrev pub invariant-loop-t : goal.invariant-loop-t
invariant-loop-t l = Underway l.given (drop l.t-index l.given) l.list l.c l.long
