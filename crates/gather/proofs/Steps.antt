-- The loop over the targets that are handed in: what is gathered so far, with those that are left, comes to all of them.
use Prim.Native.Nat.{ℕ, ◌+◌, ◌<◌, ◌≤◌}
use mathlib.Core.Path.{◌≡◌, refl, sym, ◌∙◌}
use mathlib.Core.Bool.{Bool, false, ◌||◌, or_assoc, or-false}
use mathlib.Core.List.{List, [], ◌∷◌, map}
use lib.ListN.{length, get_or, drop, drop_of_length-le, replicate}
use Rattle.plain.specs.Lists.{any, once}
use Rattle.plain.specs.Octets.{same_target}
use Rattle.plain.specs.Request.{whole_bits}
use Rattle.plain.specs.Blank.{no_target, Padded}
use Rattle.plain.specs.declared.Target.{Target}
use Rattle.lemmas.proofs.Walk.{left_at}
use Rattle.targets.specs.declared.Count.{Count}
use Rattle.targets.specs.Collected.{none_yet, targets_in, Collected, Joined}
use Rattle.targets.proofs.Laws.{none_collected, gathered}
use Rattle.spare.proofs.Whole.{once_whole}
use Rattle.plain.specs.Answers.{long_prefix}
use Rattle.gather.specs.Gathers.{Gathers}

pub record Underway (ts rest list : List Target) (c : Count) (long : Bool) : Type 0 where
  pub prefixes : long || any long_prefix rest ≡ any long_prefix ts
  pub collected : Collected (once same_target (map whole_bits ts)) (map whole_bits rest) (targets_in list c)
  pub padded : Padded c.n list

pub begun : (ts : List Target) → Underway ts (drop 0 ts) (replicate 8 no_target) none_yet false
begun ts = record { prefixes = refl; collected = none_collected (map whole_bits ts); padded = refl }

step : (ts rest list after : List Target) (c r : Count) (long : Bool) (t : Target) → Joined c list (whole_bits t) r after
    → Underway ts (t ∷ rest) list c long → Underway ts rest after r (long || long_prefix t)
unfolding any
step ts rest list after c r long t j v = record {
  prefixes = or_assoc long (long_prefix t) (any long_prefix rest) ∙ v.prefixes;
  collected = j.collected _ _ v.collected;
  padded = j.padded v.padded;
}

module _ (ts : List Target) (i : ℕ) (list : List Target) (c : Count) (long : Bool) (v : Underway ts (drop i ts) list c long) where
  pub one_more : (after : List Target) (r : Count) → i < length ts → Joined c list (whole_bits (get_or ts i no_target)) r after
      → Underway ts (drop (i + 1) ts) after r (long || long_prefix (get_or ts i no_target))
  one_more after r h j =
      step ts (drop (i + 1) ts) list after c r long (get_or ts i no_target) j (rw (left_at ts i no_target h) at v)

  pub all_in : length ts ≤ i → Gathers ts (record { targets = targets_in list c; long = long })
  unfolding any
  all_in h =
      let u : Underway ts [] list c long = rw (drop_of_length-le ts {i = i} h) at v in
      let w = gathered u.collected u.padded in
      record {
        long = sym (or-false long) ∙ u.prefixes;
        over = rw (← once_whole ts) w.over;
        few = w.few;
        room = w.room;
        held = λ e. w.held e ∙ once_whole ts;
        padded = w.padded;
      }
