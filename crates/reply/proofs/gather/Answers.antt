use Rattle.row.specs.Meaning.{request_of}
use Rattle.plain.specs.Reply.{answered_with}
use Rattle.reply.specs.Facts.{answered_of}
use Rattle.message.specs.Message.{message_in}
use mathlib.Core.Path.{refl}
use Rattle.reply.proofs.gather.Goals as goal

pub returns : goal.returns
unfolding answered_of answered_with message_in request_of
returns c = λ v. record {
  means =
      rw (
        c.how_it_stands.ensures,
        c.dest_seq.ensures v,
        c.is_ours.ensures,
        c.own_rank-rank.ensures.0,
        c.is_symmetric-symmetric.ensures,
      ) refl;
  short = c.own_rank-rank.ensures.1;
}
