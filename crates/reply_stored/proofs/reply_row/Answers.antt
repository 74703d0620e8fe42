use Rattle.plain.specs.Reply.{reply_row}
use Rattle.row.specs.Fields.{reply_in}
use Rattle.reply.specs.Facts.{answered_of}
use Rattle.message.specs.Message.{message_in}
use mathlib.Core.Path.{refl, ◌∙◌}
use Rattle.reply_stored.proofs.reply_row.Goals as goal

pub returns : goal.returns
unfolding reply_row reply_in answered_of message_in
returns c = λ v. c.reply_row.ensures ∙ rw (← c.dest_seq.ensures v, ← c.kept_deadline.ensures.reply) refl
