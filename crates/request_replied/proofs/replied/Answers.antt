use Rattle.own.specs.Settings.{settings_of}
use Rattle.rule.proofs.Types.{parsed_eight}
use Rattle.request_replied.proofs.Sent.{replied_is}
use Rattle.request_replied.proofs.replied.Goals as goal

pub returns : goal.returns
returns c =
    let s = c.args in
    let b = c.reply_base in
    let d = c.reply_discovery in
    replied_is (settings_of s.o) s.k s.p s.seq s.delta b.result d.result c.reply_count.result (b.ensures s.seq)
    (d.ensures (settings_of s.o) s.seq) c.reply_count.ensures (parsed_eight s.p _ c.well_formed.1.1.0)
