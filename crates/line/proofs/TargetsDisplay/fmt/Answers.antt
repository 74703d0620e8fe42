use Rattle.std.proofs.Common.{rules, get_or, take, []}
use Rattle.std.proofs.Output.{has_written_append, has_written_of_eq}
use Rattle.plain.specs.declared.Target.{Target}
use Rattle.line.proofs.Laws.{targets_more}
use Rattle.line.specs.Targets.{target_text, targets_text}
use Rattle.line.proofs.TargetsDisplay.fmt.Goals as goal

pub loop-t-preserved : goal.loop-t-preserved
unfolding target_text
loop-t-preserved g c = λ plain.
    let ts = c.args.self.now.0.now in
    let i = c.loop-t.t-index in
    let none : Target = record { seq = 0; plen = 0; addr = [] } in
    has_written_of_eq _ _ _ _ _ (targets_more ts i none (search rules))
    (has_written_append _ _ (targets_text (take i ts)) _ (target_text (get_or ts i none)) _ (c.loop-t.invariant plain) (search rules))
