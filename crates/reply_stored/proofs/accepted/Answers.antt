use mathlib.Core.List.{[]}
use Rattle.message.specs.Message.{message_in, received_by}
use Rattle.reply.specs.Facts.{answered_of}
use Rattle.reply_stored.proofs.Outcome.{accepts, given_if, none_if}
use Rattle.reply_stored.proofs.accepted.Goals.{then-p, else-p}
use Rattle.reply_stored.proofs.accepted.Goals as goal

pub returns : goal.returns
unfolding answered_of message_in
returns c =
    λ x v.
    let s = c.args in
    accepts x s.seq s.t (received_by s.k []) (message_in s.p v) (answered_of s.w) _ _ (c.reply_row.ensures v)
    (elim c.if-p.branch [
      | then-p w ↦ given_if _ _ _ w.if-p.true (rw (w.route.ensures v) at w.route-is)
      | else-p w ↦ none_if _ _ _ w.if-p.false w.route-is
    ])
