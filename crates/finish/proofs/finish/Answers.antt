use borrow.Author.Rules.{rules}
use Rattle.own.specs.Settings.{settings_of}
use Rattle.finish.proofs.Laws.{no_row_gives, no_route_gives, done_gives}
use Rattle.finish.proofs.finish.Goals.{in_default-via-in-Some+in_default, in_default-via-in_default}
use Rattle.finish.proofs.finish.Goals as goal

pub returns-in_default : goal.returns-in_default
returns-in_default c =
    λ acc s.
    let a = c.args in
    let p = c.place_rows in
    let q = c.place_route in
    let second = c.is_some in
    let route = c.is_some-2 in
    elim c.in_default.branch [
      | in_default-via-in-Some+in_default w ↦ no_route_gives a.call.clock a.call.seq a.call.time a.instances.now a.routes.now a.forward.now a.reply.now (settings_of a.call.own) a.vector.now acc a.l a.d.now a.there.now a.back.now s c.without_room.result second.result second.ensures p.result p.ensures route.result route.ensures q.result q.ensures (search rules) c.without_room.ensures
      | in_default-via-in_default w ↦ no_row_gives a.call.clock a.call.seq a.call.time a.instances.now a.routes.now a.forward.now a.reply.now (settings_of a.call.own) a.vector.now acc a.l a.d.now a.there.now a.back.now s c.without_room.result second.result second.ensures p.result p.ensures (search rules) c.without_room.ensures
    ]

pub returns : goal.returns
returns c =
    λ acc s.
    let a = c.args in
    let p = c.place_rows in
    let q = c.place_route in
    let k = c.in-Some-Some in
    let n = c.put_post-n in
    let m = c.put_post-m in
    let second = c.is_some in
    let route = c.is_some-2 in
    done_gives a.call.clock a.call.seq a.call.time a.instances.now a.routes.now a.forward.now a.reply.now (settings_of a.call.own) a.vector.now acc a.l a.d.now a.there.now a.back.now s c.accepted.result second.result second.ensures p.result p.ensures route.result route.ensures q.result q.ensures k.p k.q k.is-0 k.is-1 _ _ _ _ n.result m.result
    c.store.ensures.instances c.store.ensures.routes n.ensures m.ensures _ _ c.destination-forward_to.ensures c.destination-reply_to.ensures c.accepted.ensures
