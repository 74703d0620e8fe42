use mathlib.Core.Path.{◌≡◌}
use lib.ListN.{length}
use Rattle.std.proofs.Common.{rules, tests}
use Rattle.prefix.proofs.Laws.{first_made}
use Rattle.prefix.proofs.cut_bits.Goals as goal

pub returns : goal.returns
returns c =
    let l : length c.args.a ≡ 16 = search rules in
    first_made _ _ c.args.k c.args.a _ l c.from_fn.ensures.items (λ i y q k. search (rules, tests))
