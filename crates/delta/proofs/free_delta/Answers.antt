use Rattle.std.proofs.Common.{rules, tests, refl}
use Rattle.std.proofs.lemmas.Iterator.{YieldsList-from_range}
use Rattle.std.proofs.lemmas.Iterator.Search.{find_from_yields_List}
use Rattle.delta.proofs.Laws.{is_free, found_free}
use Rattle.delta.proofs.free_delta.Goals as goal

pub returns : goal.returns
returns c =
    found_free c.args.rows.now c.args.t c.args.instance c.args.dodagid c.find.result
    (find_from_yields_List (is_free c.args.rows.now c.args.t c.args.instance c.args.dodagid) _ _ c.find.result c.find.ensures.ran (YieldsList-from_range 0 64 64 refl refl) (λ x b q k. search (rules, tests)))
