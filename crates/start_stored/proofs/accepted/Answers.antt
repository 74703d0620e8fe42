use mathlib.Core.Path.{refl}
use Rattle.own.specs.Settings.{settings_of}
use Rattle.start_stored.proofs.Stored.{stored_is}
use Rattle.start_stored.proofs.accepted.Goals as goal

pub returns : goal.returns
returns c =
    λ targets.
    let a = c.args in
    let n = c.step-next in
    stored_is (settings_of a.o) a.seq n.result a.t a.s a.ts _ n.ensures c.start_row.ensures refl refl refl
    targets
