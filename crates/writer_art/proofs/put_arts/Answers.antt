use mathlib.Core.Path.{refl}
use borrow.Author.Rules.{rules}
use Rattle.lemmas.proofs.Buffer.{written_then, written_none}
use Rattle.plain.specs.Octets.{art_octets}
use Rattle.lemmas.proofs.Targets.{target_past}
use Rattle.writer_octets.proofs.Parts.{parts_none, parts_more}
use Rattle.writer_art.proofs.put_arts.Goals.{In-loop-t}
use Rattle.writer_art.proofs.put_arts.Goals as goal

pub loop-t-init : goal.loop-t-init
loop-t-init c = (refl, rw parts_none (written_none _))

pub loop-t-preserved : goal.loop-t-preserved
loop-t-preserved c =
    let l = c.loop-t in
    (search rules, rw (parts_more art_octets l.t-index c.args.targets.now target_past (search rules)) (written_then _ _ _ _ _ _ _ l.invariant.1 c.put_art-at.ensures))
