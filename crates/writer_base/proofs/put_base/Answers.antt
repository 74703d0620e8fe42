use Rattle.lemmas.proofs.Buffer.{written_then}
use Rattle.plain.specs.Octets.{base_octets}
use Rattle.writer_base.proofs.put_base.Goals as goal

pub returns : goal.returns
unfolding base_octets
returns c = written_then _ _ _ _ _ _ _ c.put_base_head-n.ensures c.put_octets-m.ensures
