use mathlib.Core.Path.{◌∙◌}
use native.Mathlib.Omega.{arith}
use Rattle.std.proofs.Common.{rules, tests}
use Rattle.std.proofs.lemmas.Iterator.{YieldsList-from_slice}
use Rattle.std.proofs.lemmas.Iterator.Search.{position_from_yields_List}
use Rattle.plain.specs.Lists.{same}
use Rattle.path.proofs.Place.{place_or_length, place_within}
use Rattle.path.proofs.place_of.Goals as goal

pub returns : goal.returns
returns c =
    let v = c.args.vector.now in
    let found = position_from_yields_List (same c.args.a) _ _ c.position.result c.position.ensures.ran (YieldsList-from_slice v cc) (λ x b q k. search (rules, tests)) in
    let e = c.unwrap_or.ensures ∙ place_or_length (same c.args.a) v c.position.result found in
    (omega (arith, e, place_within (same c.args.a) v), e)
