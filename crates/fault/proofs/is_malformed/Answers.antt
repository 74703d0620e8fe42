use mathlib.Core.Path.{sym}
use native.Mathlib.Omega.{arith}
use Rattle.fault.proofs.Counts.{art_order, art_within, malformed_bad, malformed_other}
use Rattle.fault.proofs.is_malformed.Goals as goal

pub returns-in_default : goal.returns-in_default
returns-in_default c = sym (malformed_bad c.args.msg.now (sym (rw c.in_default.is at c.requires.bad)))

pub slice_bounds-prefix_length-count : goal.slice_bounds-prefix_length-count
slice_bounds-prefix_length-count c = art_order (rw c.in-Some.is at c.requires.told) c.is_reply.ensures c.if-is_reply.true

pub slice_bounds-prefix_length-start : goal.slice_bounds-prefix_length-start
slice_bounds-prefix_length-start c = art_order (rw c.in-Some.is at c.requires.told) c.is_reply.ensures c.if-is_reply.true

pub slice_bounds-prefix_length-end : goal.slice_bounds-prefix_length-end
slice_bounds-prefix_length-end c = art_within (rw c.in-Some.is at c.requires.told) c.is_reply.ensures c.if-is_reply.true

pub returns-else-is_reply : goal.returns-else-is_reply
returns-else-is_reply c =
    malformed_other (rw c.in-Some.is at c.requires.told) c.is_reply.ensures (sym (rw c.in-Some.is at c.requires.bad)) (omega arith) (omega arith) c.if-is_reply.false
