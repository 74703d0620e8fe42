use mathlib.Core.Path.{refl}
use Rattle.scan.proofs.Laws.{seen_first, seen_again}
use Rattle.scan.proofs.noted.Goals as goal

pub returns-then-f-eq0 : goal.returns-then-f-eq0
returns-then-f-eq0 c = λ kind msg all rest w v. seen_first w v refl c.if-f-eq0.true

pub returns-else-f-eq0 : goal.returns-else-f-eq0
returns-else-f-eq0 c = λ kind msg all rest w v. seen_again w v refl c.if-f-eq0.false
