use Rattle.own.specs.Settings.{settings_of}
use Rattle.request_stored.proofs.Accept.{accepted_is}
use Rattle.request_stored.proofs.accepted.Goals as goal

pub returns : goal.returns
returns c =
    λ v.
    let s = c.args in
    accepted_is (settings_of s.o) s.seq s.t s.k s.p s.a _ c.step-next.result
    c.delta_or_0-delta.result c.replies_now-replies.result c.step-next.ensures
    c.delta_or_0-delta.ensures c.replies_now-replies.ensures c.request_row.ensures
    c.second.ensures c.route_to.ensures c.seq_after.ensures v
