use Prim.Native.Nat.{◌-◌}
use native.Mathlib.Omega.{arith}
use lib.ListN.{length}
use Rattle.targets.specs.Collected.{targets_in}
use Rattle.option.proofs.Turn.{Turn}
use Rattle.arts.proofs.Collecting.{Collecting, collecting_pad, art_here, collecting_other, collecting_art}
use Rattle.arts.proofs.read_targets.Goals.{After-next_option, in-Pad, in-Body+then-kind-eq-ART, in-Body+else-kind-eq-ART}
use Rattle.arts.proofs.read_targets.Goals as goal

-- what is known of the option that is next
turn : (c : After-next_option)
    → let msg = c.args.msg.now in
    let l = c.loop in
    let left = length msg - l.counter in
    Turn (Collecting msg (targets_in l.list l.c) l.at left) msg l.at left c.next_option.result
turn c = record { inv = c.loop.invariant; more = omega (arith, c.loop-test.true); stands = c.next_option.ensures }

pub read_target-requires : goal.read_target-requires
read_target-requires c = art_here (turn (goal.at.read_target-requires c).After-next_option) c.in-Body.is c.if-kind-eq-ART.true

pub loop-preserved : goal.loop-preserved
loop-preserved c =
    let here = turn (goal.at.loop-preserved c).After-next_option in
    elim c.match-next_option.branch [
      | in-Pad w ↦ rw (w.list-is, w.c-is, w.at-is) (collecting_pad here w.in-Pad.is (omega arith))
      | in-Body+then-kind-eq-ART w ↦
          rw (w.list-is, w.c-is, w.at-is)
          (collecting_art here w.in-Body.is w.if-kind-eq-ART.true w.read_target.ensures w.collect-c.ensures.collected w.collect-c.ensures.padded (omega arith))
      | in-Body+else-kind-eq-ART w ↦ rw (w.list-is, w.c-is, w.at-is) (collecting_other here w.in-Body.is w.if-kind-eq-ART.false (omega arith))
    ]
