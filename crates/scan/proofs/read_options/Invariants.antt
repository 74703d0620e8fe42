use Prim.Native.Nat.{◌-◌}
use lib.ListN.{length}
use Rattle.scan.proofs.Passing.{Passing}
use Rattle.scan.proofs.read_options.Given as goal

abbrev pub invariant-loop : goal.invariant-loop
invariant-loop l = Passing l.msg l.s l.at (length l.msg - l.counter)
