use Rattle.std.proofs.Common.{◌≡◌, ◌||◌, ◌∙◌, ap, get_or}
use Rattle.std.proofs.lemmas.List.{get_or_default}
use Rattle.plain.specs.Blank.{no_target}
use Rattle.plain.specs.Answers.{long_prefix}
use Rattle.plain.specs.Request.{whole_bits}
use Rattle.gather.proofs.Steps.{one_more}
use Rattle.gather.proofs.gather.Goals as goal

-- what is read past the end of a lent slice of targets does not matter below its length
pub loop-t-preserved : goal.loop-t-preserved
loop-t-preserved c =
    let l = c.loop-t in
    let given = c.args.given.now in
    let t = get_or given l.t-index no_target in
    let w : c.whole_bits.result ≡ whole_bits t =
    c.whole_bits.ensures ∙ ap whole_bits (get_or_default given l.t-index _ no_target c.loop-t-test.true) in
    let g : c.is_long-long.result ≡ l.long || long_prefix t =
    c.is_long-long.ensures ∙ ap (λ z. l.long || long_prefix z) (get_or_default given l.t-index _ no_target c.loop-t-test.true) in
    let j = rw w at c.collect-c.ensures in
    rw g (one_more given l.t-index l.list l.c l.long l.invariant _ _ c.loop-t-test.true j)
