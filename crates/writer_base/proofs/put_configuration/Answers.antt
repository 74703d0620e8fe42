use mathlib.Core.Path.{◌≡◌}
use lib.ListN.{length}
use borrow.Author.Rules.{rules}
use Rattle.lemmas.proofs.Buffer.{written_then}
use Rattle.writer_base.proofs.Lengths.{configuration_some}
use Rattle.writer_base.proofs.put_configuration.Goals as goal

pub returns : goal.returns
returns c =
    let k : length c.in-Some.octets ≡ 14 = search rules in
    rw (c.in-Some.is, configuration_some 14 _ k) (written_then _ _ _ _ _ _ _ c.put_octets-n.ensures c.put_octets-m.ensures)
