use Prim.Native.Nat.{◌-◌}
use lib.ListN.{length}
use Rattle.targets.specs.Collected.{targets_in}
use Rattle.arts.proofs.Collecting.{Collecting}
use Rattle.arts.proofs.read_targets.Given as goal

abbrev pub invariant-loop : goal.invariant-loop
invariant-loop l = Collecting l.msg (targets_in l.list l.c) l.at (length l.msg - l.counter)
