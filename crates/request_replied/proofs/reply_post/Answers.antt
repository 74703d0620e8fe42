use mathlib.Core.Path.{◌≡◌}
use mathlib.Core.Bool.{true}
use Rattle.std.proofs.Common.{rules}
use Rattle.plain.specs.Request.{accept_request}
use Rattle.own.specs.Settings.{settings_of}
use Rattle.message.specs.Message.{message_in}
use Rattle.request.specs.Facts.{asked_of}
use Rattle.request_replied.proofs.Sent.{reply_posts}
use Rattle.request_replied.proofs.reply_post.Goals as goal

pub returns : goal.returns
unfolding accept_request message_in asked_of
returns c =
    λ t v l.
    let a = c.args in
    let r = c.replies_now in
    let on : r.result ≡ true = search (rules, c.if-not-replies_now.false) in
    let n = c.step in
    let d = c.delta_or_0 in
    let m = c.replied-message in
    let to = c.reply_to-to in
    rw (← r.ensures, ← n.ensures, ← d.ensures)
    (reply_posts (settings_of a.o) a.k a.p n.result d.result c.requires m.result to.result m.ensures r.result on _ to.ensures v l)
