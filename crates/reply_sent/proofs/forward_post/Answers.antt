use Rattle.own.specs.Settings.{settings_of}
use Rattle.rule.proofs.Types.{own_sixteen}
use Rattle.reply.specs.Facts.{answered_of}
use Rattle.reply_sent.proofs.Sends.{posts_path, posts_reply}
use Rattle.reply_sent.proofs.forward_post.Goals as goal

pub returns-then-w : goal.returns-then-w
unfolding answered_of
returns-then-w c =
    rw c.path_post.ensures
    (posts_path (settings_of c.args.o) c.args.p c.args.vector.now (answered_of c.args.w) c.requires.1.places c.requires.0 c.if-w.true)

pub returns : goal.returns
unfolding answered_of
returns c =
    let v = c.args.vector.now in
    let a = own_sixteen c.args.o _ c.well_formed.0 in
    let g = c.does_grow-grown in
    let to = c.destination-to in
    rw c.forwarded-message.ensures
    (posts_reply (settings_of c.args.o) c.args.p v (answered_of c.args.w) c.requires.1.places c.requires.0 g.result to.result (g.ensures v)
    c.requires.1.whole a.0 a.1 c.requires.3 c.if-w.false to.ensures)
