use Rattle.reply_stored.specs.Made.{reply_route}
use Rattle.message.specs.Message.{message_in}
use mathlib.Core.Path.{refl, ◌∙◌}
use Rattle.reply_stored.proofs.route.Goals as goal

pub returns : goal.returns
unfolding reply_route message_in
returns c = λ v. c.route.ensures ∙ rw (← c.orig_node-source.ensures v, ← c.partner_number-number.ensures v, ← c.dest_seq.ensures v) refl
