use Rattle.std.proofs.Common.{◌+◌, rules}
use Rattle.plain.specs.Octets.{octet_at}
use Rattle.trace_input.specs.Input.{octets_in}
use Rattle.trace_input.proofs.Made.{made}
use Rattle.trace_input.proofs.octets_at.Goals as goal

pub returns : goal.returns
unfolding octets_in
returns g c = made _ _ (λ i. octet_at c.args.o.now (c.args.from + i)) g.row.N (λ k y q u call. search (rules, call, u)) c.from_fn.result 0 c.from_fn.ensures.items
