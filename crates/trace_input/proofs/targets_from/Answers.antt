use Rattle.std.proofs.Common.{◌+◌, ◌*◌, rules}
use Rattle.plain.specs.Blank.{no_target}
use Rattle.trace_input.specs.Input.{target_in, targets_in}
use Rattle.trace_input.proofs.Made.{made}
use Rattle.trace_input.proofs.targets_from.Goals as goal

pub returns : goal.returns
unfolding targets_in
returns g c = made _ _ (λ i. target_in c.args.o.now (c.args.from + i * 18)) g.row.N (λ k y q u call. search (rules, call, u)) c.from_fn.result no_target c.from_fn.ensures.items
