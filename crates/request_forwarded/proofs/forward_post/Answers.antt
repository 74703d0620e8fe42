use mathlib.Core.Path.{◌≡◌, sym, ◌∙◌}
use mathlib.Core.Bool.{true}
use Rattle.std.proofs.Common.{rules}
use Rattle.plain.specs.Request.{forwards, accept_request}
use Rattle.message.specs.Message.{message_in}
use Rattle.request_forwarded.proofs.Sent.{onward_posts}
use Rattle.request_forwarded.proofs.forward_post.Goals as goal

pub returns : goal.returns
unfolding accept_request forwards message_in
returns c =
    λ x own t v room.
    let f = c.forwards in
    let on : f.result ≡ true = search (rules, c.if-not-forwards.false) in
    let m = c.forwarded-message in
    let to = c.to_group-to in
    rw (← f.ensures)
    (onward_posts c.args.k c.args.p c.args.a c.requires.heard c.requires.sendable f.result on m.result to.result m.ensures to.ensures x v
    (room (sym f.ensures ∙ on)))
