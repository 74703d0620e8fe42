use Rattle.std.proofs.Common.{rules, w8}
use Rattle.addresses.proofs.Long.{arrays_long}
use Rattle.addresses.proofs.known.Goals as goal

pub returns : goal.returns
returns c = (search rules, arrays_long w8 16 16 c.args.vector _ c.well_formed.0)
