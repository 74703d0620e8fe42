use mathlib.Core.Path.{refl}
use Rattle.own.specs.Settings.{settings_of}
use Rattle.request.proofs.Rows.{gathered_is}
use Rattle.request.proofs.gather.Goals as goal

pub returns : goal.returns
returns c =
    λ v.
    let a = c.args in
    let named = c.named_in in
    gathered_is (settings_of a.o) a.k a.p a.f a.g a.d named.result _ c.requires.heard.prefixes refl refl refl
    c.own_rank-rank.ensures c.how_it_stands-standing.ensures c.requires.targ_value named.ensures c.targets_kept-targets.ensures v
