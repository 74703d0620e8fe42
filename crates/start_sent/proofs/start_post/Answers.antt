use Rattle.plain.specs.Request.{accept_start, start_message}
use Rattle.own.specs.Settings.{settings_of}
use Rattle.start_sent.proofs.Sent.{start_posts}
use Rattle.start_sent.proofs.start_post.Goals as goal

pub returns : goal.returns
unfolding accept_start start_message
returns c =
    λ t vector targets.
    let a = c.args in
    let n = c.step in
    let m = c.start_message-message in
    rw (← n.ensures)
    (start_posts (settings_of a.o) vector n.result a.s a.ts c.requires m.result m.ensures.0 m.ensures.1 m.ensures.2
    c.to_group-to.result c.to_group-to.ensures)
