use mathlib.Core.Path.{◌≡◌, sym, ◌∙◌}
use mathlib.Core.Bool.{false}
use Rattle.plain.specs.Address.{unusable}
use Rattle.plain.specs.Octets.{base_of, malformed, unfit}
use Rattle.reader.specs.Reading.{heard_from}
use Rattle.reader.specs.Parts.{Filled}
use Rattle.reader.proofs.Message.{hear_many, hear_heard, bounded}
use Rattle.reader.proofs.read.Goals.{After-fill-r, Else-has_unusable_dodagid, Else-is_malformed, Else-is_unfit}
use Rattle.reader.proofs.read.Goals as goal

-- ---- what is known

-- where the message is not malformed
formed : (c : Else-is_malformed) → malformed c.args.msg.now ≡ false
formed c = sym c.is_malformed.ensures ∙ c.if-is_malformed.false

-- nor unfit
fit : (c : Else-is_unfit) → unfit c.args.msg.now ≡ false
fit c = sym c.is_unfit.ensures ∙ c.if-is_unfit.false

-- and has a DODAGID that can be used
usable : (c : Else-has_unusable_dodagid) → unusable (base_of c.args.msg.now).dodagid ≡ false
usable c = sym c.has_unusable_dodagid.ensures ∙ c.if-has_unusable_dodagid.false

-- what is read then
filled : (c : After-fill-r)
    → let msg = c.args.msg.now in Filled msg c.read_targets-ts.result (base_of msg) c.fill-r.result
filled c = rw c.read_base-base.ensures at c.fill-r.ensures

-- ---- the parts

pub returns-then-is_too_many : goal.returns-then-is_too_many
unfolding heard_from
returns-then-is_too_many c =
    let e = sym c.is_too_many.ensures ∙ c.if-is_too_many.true in
    record {
      heard = sym (hear_many c.read_targets-ts.ensures (filled (goal.at.returns-then-is_too_many c).After-fill-r) (formed (goal.at.returns-then-is_too_many c).Else-is_malformed) (fit (goal.at.returns-then-is_too_many c).Else-is_unfit) (usable (goal.at.returns-then-is_too_many c).Else-has_unusable_dodagid) e);
      bounded = tt;
    }

pub returns : goal.returns
returns c =
    let v = c.read_targets-ts.ensures in
    let e = sym c.is_too_many.ensures ∙ c.if-is_too_many.false in
    record {
      heard = hear_heard v (filled (goal.at.returns c).After-fill-r) (formed (goal.at.returns c).Else-is_malformed) (fit (goal.at.returns c).Else-is_unfit) (usable (goal.at.returns c).Else-has_unusable_dodagid) e;
      bounded = bounded v (filled (goal.at.returns c).After-fill-r) e;
    }
