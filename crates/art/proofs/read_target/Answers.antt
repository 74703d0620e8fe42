use Rattle.plain.specs.Octets.{target_of}
use Rattle.art.proofs.Laws.{body_put}
use Rattle.art.proofs.read_target.Goals as goal

pub returns : goal.returns
unfolding target_of
returns c =
    rw (
      c.octet_at.ensures,
      c.first_bits.ensures,
      c.prefix_bits.ensures,
      c.put_over.ensures,
      c.prefix_length-plen.ensures,
      body_put c.args.body.now c.requires,
    )
