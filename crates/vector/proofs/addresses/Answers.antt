use Prim.Native.Nat.{◌+◌, ◌-◌, ◌<◌}
use mathlib.Core.Path.{◌≡◌, ◌∙◌, refl}
use mathlib.Core.List.{[], ◌++◌}
use native.Mathlib.Omega.{arith}
use lib.ListN.{length}
use lib.Seq.{get_or-set_same, set-set}
use Rattle.octets.proofs.Laws.{over_end}
use borrow.Author.Rules.{rules}
use Rattle.vector.proofs.Laws.{restoring_first, room_here, restoring_more, restoring_last}
use Rattle.vector.proofs.addresses.Goals as goal

pub loop-i-init : goal.loop-i-init
loop-i-init c =
    let r = c.into_iter-i-iterator.result in
    let e : r.iter.rest.now ≡ c.args.part.now = search rules in
    let z : r.count ≡ 0 = search rules in
    (refl, search rules, rw (e, z) (restoring_first c.from-compr.result c.args.dodagid c.args.part.now _))

pub loop-i-preserved : goal.loop-i-preserved
loop-i-preserved c =
    let l = c.loop-i in
    let a = c.args in
    let piece = c.in-Some.piece.now in
    let compr = c.from-compr.result in
    let most = rw (← c.from-compr.ensures) at c.requires.1 in
    let low = rw (← c.from-compr.ensures) at c.requires.0 in
    let d : length a.dodagid ≡ 16 = search rules in
    let e : l.i-iterator.iter.rest.now ≡ piece ++ c.next.new.self.iter.rest.now = search rules in
    let s : length piece ≡ 16 - compr = search rules in
    let i : c.in-Some.i ≡ l.i-iterator.count = search rules in
    let n : c.next.new.self.count ≡ l.i-iterator.count + 1 = search rules in
    let m = room_here l.invariant.2 low piece _ e s in
    let r = rw (get_or-set_same l.vector c.in-Some.i a.dodagid [] (omega arith)) at c.put_over.ensures in (
      search rules,
      search rules,
      rw (set-set l.vector c.in-Some.i a.dodagid, n, i)
          (restoring_more l.invariant.2 low piece _ e s (omega arith) (r ∙ over_end a.dodagid piece compr (omega arith))),
    )

pub returns : goal.returns
returns c =
    let l = c.loop-i in
    let low = rw (← c.from-compr.ensures) at c.requires.0 in
    let s : length l.i-iterator.iter.rest.now < 16 - c.from-compr.result = search rules in
    rw (← c.from-compr.ensures) (restoring_last l.invariant.2 low s)
