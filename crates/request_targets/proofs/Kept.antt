-- Targets that are taken out.
use mathlib.Core.Path.{◌≡◌, refl, ap}
use mathlib.Core.Bool.{Bool, true, false, cond, not}
use mathlib.Core.List.{List, [], ◌∷◌}
use mathlib.Core.Option.{Option}
use Rattle.plain.specs.Lists.{all, any, those}
use Rattle.plain.specs.Given.{Settings, RequestRow}
use Rattle.plain.specs.Table.{Numbered}
use Rattle.plain.specs.Request.{matches_us, not_ours, common, is_update, row_targets, targets_kept}
use Rattle.plain.specs.declared.Standing.{Standing}
use Rattle.plain.specs.declared.Target.{Target}
use Rattle.targets.specs.declared.Targets.{Targets}
use Rattle.kept.specs.Kept.{list_of, Kept}
use Rattle.lemmas.proofs.Choice.{cond_case, and_left, and_right, and_both, or_left, or_right}

-- what holds of each holds of each of those
pub all_those : {A : Type 0} (p q : A → Bool) (xs : List A) → all p xs ≡ true → all p (those q xs) ≡ true
unfolding all those
all_those p q [] e = refl
all_those p q (x ∷ xs) e = go (q x) (all_those p q xs (and_right (p x) (all p xs) e))
  where
    go : (b : Bool) → all p (those q xs) ≡ true → all p (cond b (x ∷ those q xs) (those q xs)) ≡ true
    go true rest = and_both (p x) (all p (those q xs)) (and_left (p x) (all p xs) e) rest
    go false rest = rest

module _ (x : Settings) (s : Standing) (row : Option (Numbered RequestRow)) (ts : Targets) (r : Targets) where
  -- "the targets become those also in the row"
  pub kept_update : is_update s ≡ true → (held both : Targets) → list_of held ≡ row_targets row → list_of both ≡ common (list_of ts) (list_of held)
      → Kept (not_ours x (list_of both)) r → Kept (targets_kept x s row (list_of ts)) r
  unfolding targets_kept
  kept_update u held both eh eb k = rw (u, ← eh, ← eb) k

  pub kept_new : is_update s ≡ false → Kept (not_ours x (list_of ts)) r → Kept (targets_kept x s row (list_of ts)) r
  unfolding targets_kept
  kept_new u k = rw u k

-- where none is so, those that are not so are all
pub those_none : {A : Type 0} (p : A → Bool) (xs : List A) → any p xs ≡ false → those (λ (x : A). not (p x)) xs ≡ xs
unfolding any those
those_none p [] e = refl
those_none p (x ∷ xs) e =
    rw (or_left (p x) (any p xs) e) (ap (λ (ys : List _). x ∷ ys) (those_none p xs (or_right (p x) (any p xs) e)))

-- none is ours, so all are kept
pub kept_all : (x : Settings) (s : Standing) (row : Option (Numbered RequestRow)) (ts : Targets) → is_update s ≡ false
    → any (matches_us x) (list_of ts) ≡ false → Kept (list_of ts) ts → Kept (targets_kept x s row (list_of ts)) ts
kept_all x s row ts u e k = kept_new x s row ts ts u (rw (those_none (matches_us x) (list_of ts) e) k)

-- what holds of each target holds of each that is kept
pub all_kept : (p : Target → Bool) (x : Settings) (s : Standing) (row : Option (Numbered RequestRow)) (ts : List Target)
    → all p ts ≡ true → all p (targets_kept x s row ts) ≡ true
unfolding targets_kept common
all_kept p x s row ts e =
    all_those p (λ (t : Target). not (matches_us x t)) (cond (is_update s) (common ts (row_targets row)) ts)
    (cond_case (λ (us : List Target). all p us ≡ true) (is_update s) (common ts (row_targets row)) ts
    (λ u. all_those p _ ts e) (λ u. e))
