use Prim.Native.Nat.{◌-◌}
use mathlib.Core.Path.{sym, ◌∙◌}
use native.Mathlib.Omega.{arith}
use lib.ListN.{length}
use Rattle.scan.proofs.Passing.{Passing, scanned_out, scanned_end, scanned_cut, passing_pad, scanned_body, passing_body}
use Rattle.option.proofs.Turn.{Turn}
use Rattle.scan.proofs.read_options.Goals.{After-next_option, in-Pad, in-Body+else-is_bad_option}
use Rattle.scan.proofs.read_options.Goals as goal

-- what is known of the option that is next
turn : (c : After-next_option)
    → let msg = c.args.msg.now in
    let l = c.loop in
    let left = length msg - l.counter in
    Turn (Passing msg l.s l.at left) msg l.at left c.next_option.result
turn c = record { inv = c.loop.invariant; more = omega (arith, c.loop-test.true); stands = c.next_option.ensures }

pub returns-then-is_bad_option : goal.returns-then-is_bad_option
returns-then-is_bad_option c =
    scanned_body (turn (goal.at.returns-then-is_bad_option c).After-next_option) c.in-Body.is (sym c.is_bad_option.ensures ∙ c.if-is_bad_option.true)

pub loop-preserved : goal.loop-preserved
loop-preserved c =
    elim c.match-next_option.branch [
      | in-Pad w ↦ rw (w.s-is, w.at-is) (passing_pad (turn (goal.at.loop-preserved c).After-next_option) w.in-Pad.is (omega arith))
      | in-Body+else-is_bad_option w ↦
          let good = sym w.is_bad_option.ensures ∙ w.if-is_bad_option.false in
          rw (w.s-is, w.at-is) (passing_body (turn (goal.at.loop-preserved c).After-next_option) w.in-Body.is good w.with_option-s.ensures (omega arith))
    ]

pub returns-in-End : goal.returns-in-End
returns-in-End c = scanned_end (turn (goal.at.returns-in-End c).After-next_option) c.in-End.is

pub returns-in-Cut : goal.returns-in-Cut
returns-in-Cut c = scanned_cut (turn (goal.at.returns-in-Cut c).After-next_option) c.in-Cut.is

pub returns : goal.returns
returns c = scanned_out c.loop.invariant (omega arith)
