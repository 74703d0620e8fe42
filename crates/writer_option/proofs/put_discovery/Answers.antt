use mathlib.Core.Path.{sym}
use Rattle.lemmas.proofs.Buffer.{written_then}
use Rattle.writer_octets.proofs.Addresses.{told_length}
use Rattle.writer_option.proofs.Lengths.{route_parts}
use Rattle.writer_option.proofs.put_discovery.Goals as goal

pub returns : goal.returns
returns c =
    let e = c.from-compr.ensures in
    rw (route_parts c.args.d c.args.vector.now _ c.if-d.false (sym (told_length c.args.d.compr c.args.vector.now c.told-vector)))
    (written_then _ _ _ _ _ _ _ (rw e at c.put_route_head-at.ensures) (rw e at c.put_vector-m.ensures))
