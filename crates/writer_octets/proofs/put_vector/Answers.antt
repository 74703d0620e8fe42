use Prim.Native.Nat.{◌≤◌, ◌+◌}
use mathlib.Core.List.{[]}
use mathlib.Core.Path.{refl}
use native.Mathlib.Omega.{arith}
use lib.ListN.{length, get_or, length-take, length-drop}
use borrow.Author.Rules.{rules}
use Rattle.lemmas.proofs.Buffer.{written_then, written_none}
use Rattle.plain.specs.Address.{elide}
use Rattle.writer_octets.proofs.Parts.{parts_none, parts_more, parts_room}
use Rattle.writer_octets.proofs.put_vector.Goals.{In-loop-a}
use Rattle.writer_octets.proofs.put_vector.Goals as goal

-- what is left has room for the next one
room : (c : In-loop-a)
    → c.loop-a.at + length (elide c.args.compr (get_or c.args.vector.now c.loop-a.a-index [])) ≤ length c.loop-a.out
room c =
    let l = c.loop-a in
    parts_room (elide c.args.compr) l.a-index l.at c.args.vector.now [] _ _ c.loop-a-test.true l.invariant.1 c.requires.1 l.invariant.0

pub loop-a-init : goal.loop-a-init
loop-a-init c = (refl, rw parts_none (written_none _))

pub put_address-at-requires : goal.put_address-at-requires
put_address-at-requires c = let r = room (goal.at.put_address-at-requires c).In-loop-a in (c.requires.0, simp (length-take, length-drop) (omega (arith, length-drop c.args.compr (get_or c.args.vector.now c.loop-a.a-index []))))

pub loop-a-preserved : goal.loop-a-preserved
loop-a-preserved c =
    let l = c.loop-a in
    (search rules, rw (parts_more (elide c.args.compr) l.a-index c.args.vector.now [] (search rules)) (written_then _ _ _ _ _ _ _ l.invariant.1 c.put_address-at.ensures))
