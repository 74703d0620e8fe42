-- Whether a start is a bad call, and what is held of one that is none.
use Prim.Native.Nat.{ℕ}
use mathlib.Core.Path.{◌≡◌, refl, sym, ◌∙◌}
use mathlib.Core.Bool.{Bool, true, false, ◌||◌, or-true}
use mathlib.Core.List.{List, map}
use native.Mathlib.Omega.{arith}
use lib.Dec.{eqb, ltb}
use lib.ListN.{length}
use lib.Seq.{length-take-le}
use borrow.Author.Tests.{ltb-false, eqb-false}
use Rattle.plain.specs.Given.{Start}
use Rattle.plain.specs.Lists.{any, once}
use Rattle.plain.specs.Octets.{same_target, most_targets}
use Rattle.plain.specs.Answers.{long_prefix, short_prefix, bad_start}
use Rattle.plain.specs.Request.{whole_bits, start_targets}
use Rattle.plain.specs.declared.Target.{Target}
use Rattle.lemmas.proofs.Choice.{or_left, or_right}
use Rattle.lemmas.proofs.Each.{each_settles}
use Rattle.lemmas.proofs.Targets.{start_short}
use Rattle.gather.specs.declared.Gathering.{Gathering}
use Rattle.gather.specs.Gathers.{Gathers}
use Rattle.bad_start.specs.Judged.{Judged, Fit}

module _ (ts : List Target) (g : Gathering) (v : Gathers ts g) where
  abbrev S : List Target
  S = map whole_bits (once same_target ts)

  -- so many are held as there are
  number : g.targets.over ≡ false → length S ≡ g.targets.count
  number e = rw (← v.held e) (length-take-le g.targets.count g.targets.list (omega (arith, v.few, v.room)))

  -- "0 or over 8 targets"
  sizes : eqb g.targets.count 0 || g.targets.over ≡ eqb (length S) 0 || ltb most_targets (length S)
  sizes = go g.targets.over refl
    where
      go : (b : Bool) → g.targets.over ≡ b → eqb g.targets.count 0 || g.targets.over ≡ eqb (length S) 0 || ltb most_targets (length S)
      go true e = rw (← v.over, e) (or-true (eqb g.targets.count 0) ∙ sym (or-true (eqb (length S) 0)))
      go false e = rw (← v.over, number e)

pub judged : (g : Gathering) (l compr limit : ℕ) (bad : Bool)
    → bad ≡ eqb g.targets.count 0 || g.targets.over || g.long || ltb 3 l || ltb 15 compr || ltb 127 limit → Judged g l compr limit bad
unfolding bad_start start_targets
judged g l compr limit bad e = record { told = λ c v p q r. e ∙ rw (sizes c.targets g v, v.long, p, q, r) }

-- what is held of a start that is no bad call
pub fit : (c : Start) (g : Gathering) → Gathers c.targets g → bad_start c (start_targets c) ≡ false → Fit c g
unfolding bad_start start_targets
fit c g v e =
    let T = S c.targets g v in
    let before = eqb (length T) 0 || ltb most_targets (length T) || any long_prefix c.targets || ltb 3 c.l in
    let three = or_left _ _ (or_left _ _ (or_left _ _ e)) in
    let two = or_left _ _ three in
    let w : g.targets.over ≡ false = v.over ∙ or_right (eqb (length (S c.targets g v)) 0) _ two in
    let n : eqb (length (S c.targets g v)) 0 ≡ false = or_left _ _ two in
    let s : any long_prefix c.targets ≡ false = or_right (eqb (length (S c.targets g v)) 0 || ltb most_targets (length (S c.targets g v))) _ three in
    record {
      whole = w;
      some = omega (arith, number c.targets g v w, eqb-false (length (S c.targets g v)) 0 n);
      few = v.few;
      held = v.held w;
      short = rw (v.held w) (each_settles false short_prefix (start_targets c) (start_short c s));
      compr = ltb-false 15 c.compr (or_right before (ltb 15 c.compr) (or_left (before || ltb 15 c.compr) (ltb 127 c.limit) e));
    }
