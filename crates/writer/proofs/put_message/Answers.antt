use native.Mathlib.Omega.{arith}
use lib.ListN.{length-take, length-drop}
use borrow.Author.Rules.{rules}
use Rattle.lemmas.proofs.Buffer.{written_then}
use Rattle.plain.specs.Octets.{octets_of}
use Rattle.writer_octets.proofs.Addresses.{told_whole}
use Rattle.writer.specs.Given.{message_from}
use Rattle.writer.proofs.Lengths.{Sizes, message_sizes}
use Rattle.writer.proofs.put_message.Goals.{Start}
use Rattle.writer.proofs.put_message.Goals as goal

-- how many octets each part of the message has at most
sizes : (s : Start) → let a = s.args in Sizes (message_from a.base a.configuration a.d a.vector.now a.targets.now)
sizes s =
    let a = s.args in
    message_sizes a.base a.configuration a.d a.vector.now a.targets.now (search rules) (search rules) s.requires.0 (told_whole a.vector.now s.told-vector) s.requires.1 s.requires.2

pub put_configuration-requires : goal.put_configuration-requires
put_configuration-requires c = let z = sizes (goal.at.put_configuration-requires c).Start in simp (length-take, length-drop) (omega arith)

pub put_discovery-requires : goal.put_discovery-requires
put_discovery-requires c = let z = sizes (goal.at.put_discovery-requires c).Start in (c.requires.0, simp (length-take, length-drop) (omega arith))

pub put_arts-requires : goal.put_arts-requires
put_arts-requires c = let z = sizes (goal.at.put_arts-requires c).Start in (c.requires.2, simp (length-take, length-drop) (omega arith))

pub returns : goal.returns
unfolding octets_of
returns c =
    let p = c.put_base-a.ensures in
    let v = written_then _ _ _ _ _ _ _ p c.put_configuration.ensures in
    let w = written_then _ _ _ _ _ _ _ v c.put_discovery.ensures in
    written_then _ _ _ _ _ _ _ w c.put_arts.ensures
