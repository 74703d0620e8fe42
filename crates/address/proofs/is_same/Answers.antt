use mathlib.Core.Bool.{false}
use mathlib.Core.Path.{◌∙◌}
use lib.Dec.{eqb}
use Rattle.std.proofs.Common.{rules, tests, ℕ}
use Rattle.std.proofs.lemmas.Iterator.{YieldsList-from_slice, YieldsList-from_zip}
use Rattle.lemmas.proofs.Library.{settled_run}
use Rattle.address.proofs.Laws.{zip_same}
use Rattle.address.proofs.is_same.Goals as goal

pub returns-then-a-b : goal.returns-then-a-b
returns-then-a-b c =
    settled_run false (λ (p : ℕ × ℕ). eqb p.0 p.1) c.all.new.self _ _ c.all.ensures.ran (YieldsList-from_zip {s = c.zip.result} (YieldsList-from_slice c.args.a cc) (YieldsList-from_slice c.args.b cc)) (λ x b q k. search (rules, tests))
    ∙ zip_same c.args.a c.args.b cc
