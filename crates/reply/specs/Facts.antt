-- The facts of a reply by value: plain's `Answered`.
use Rattle.std.specs.Prelude.{◌≤◌, ◌≡◌, Bool, true, ◌&&◌}
use Rattle.plain.specs.Given.{Settings}
use Rattle.plain.specs.Octets.{Message}
use Rattle.plain.specs.Request.{cannot_grow, grown}
use Rattle.plain.specs.Reply.{Answered, grows}
use Rattle.row.specs.Meaning.{request_of}
use Rattle.message.specs.Message.{reply_found, route_found}
use Rattle.reply.specs.declared.ReplyFacts.{ReplyFacts}

unfoldable pub answered_of : ReplyFacts → Answered
answered_of w = record {
  partner = request_of w.partner;
  row = reply_found w.found;
  route = route_found w.route;
  symmetric = w.symmetric;
  is_orig = w.orig;
  rank = w.rank;
  standing = w.standing;
}

-- they are those of a reply, and a rank that is kept has 16 bits
pub record Gathered (a : Answered) (w : ReplyFacts) : Type 0 where
  pub means : answered_of w ≡ a
  pub short : w.symmetric ≡ true → w.rank ≤ 65535

-- line 16
unfoldable pub is_full : Settings → Message → Answered → Bool
is_full x m a = grows m a && cannot_grow m.discovery.compr (grown x m.discovery.h m.vector)
