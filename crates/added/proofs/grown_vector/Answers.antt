use Prim.Native.Nat.{◌+◌, ◌<◌}
use mathlib.Core.Path.{◌≡◌, sym, ◌∙◌}
use mathlib.Core.Bool.{false}
use lib.ListN.{length}
use Rattle.plain.specs.Lists.{same}
use Rattle.own.specs.Settings.{settings_of}
use Rattle.added.proofs.Laws.{same_told, different_told, grow_one, grow_two, room_one, room_two}
use Rattle.added.proofs.grown_vector.Goals.{Else-count-next, Else-h}
use Rattle.added.proofs.grown_vector.Goals as goal

-- ---- what is known

-- where ours are added, one has room
room-for-one : (c : Else-h) → c.args.n < 16
room-for-one c =
    room_one (settings_of c.args.o) c.args.h c.args.n c.if-h.false (rw c.requires.0 at c.requires.1)

-- and where they are two, a second
two : (c : Else-count-next) → let x = settings_of c.args.o in same x.receiving x.sending ≡ false
two c =
    different_told (settings_of c.args.o) c.args.h c.args.n c.if-h.false (λ z. c.if-count-next.false (c.requires.0 ∙ z))

room-for-two : (c : Else-count-next) → c.args.n + 1 < 16
room-for-two c =
    room_two (settings_of c.args.o) c.args.h c.args.n c.if-h.false (two c) (rw c.requires.0 at c.requires.1)

-- ---- the parts

pub returns-then-count-next : goal.returns-then-count-next
returns-then-count-next c =
    let k : length c.args.vector.now ≡ 16 = c.told-vector in
    rw c.requires.0
    (grow_one (settings_of c.args.o) c.args.h c.args.n c.if-h.false c.args.vector.now
    (same_told (settings_of c.args.o) c.args.h c.args.n c.if-h.false (sym c.requires.0 ∙ c.if-count-next.true)) (rw k (room-for-one (goal.at.returns-then-count-next c).Else-h)))

pub returns : goal.returns
returns c =
    let k : length c.args.vector.now ≡ 16 = c.told-vector in
    rw c.requires.0
    (grow_two (settings_of c.args.o) c.args.h c.args.n c.if-h.false c.args.vector.now (two (goal.at.returns c).Else-count-next)
    (rw k (room-for-two (goal.at.returns c).Else-count-next)))
