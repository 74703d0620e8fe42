-- The pass that collects the targets, one turn for each thing that may stand at a position.
use Prim.Native.Nat.{ℕ, ◌+◌, ◌-◌}
use mathlib.Core.Path.{◌≡◌, refl, sym, ap, ◌∙◌}
use mathlib.Core.Bool.{false}
use mathlib.Core.List.{List, [], ◌∷◌, map}
use mathlib.Core.Option.{Option, some, none}
use lib.ListN.{drop}
use borrow.Author.Tests.{eq-eqb, ne_eqb}
use Rattle.lemmas.proofs.Choice.{true_false, or_left, or_right}
use Rattle.plain.specs.Lists.{any, those, once}
use Rattle.plain.specs.Octets.{Opt, of_type, art_type, options_in, options_of, any_bad, bad_option, bad_art, followed_by, target_of, same_target}
use Rattle.plain.specs.Blank.{Padded}
use Rattle.plain.specs.declared.Target.{Target}
use Rattle.targets.specs.declared.Targets.{Targets}
use Rattle.targets.specs.Collected.{Collected, Gathered}
use Rattle.targets.proofs.Laws.{gathered}
use Rattle.option.specs.Follows.{option_of, part_of}
use Rattle.option.specs.declared.Next.{Next}
use Rattle.option.specs.declared.Next.TheVariants.{Pad, Body, End, Cut}
use Rattle.option.proofs.Turn.{Turn, end_next, cut_next, pad_next, body_next}

-- the targets of the ARTs among some options, in their order
abbrev pub art_targets : Option (List Opt) → List Target
art_targets os = map (λ (o : Opt). target_of o.body) (of_type art_type os)

-- What holds before each turn: the options from `at` on, read in `left` steps, are not bad, their targets are those that are to come, and
-- the list is blank past those that are collected.
pub record Collecting (msg : List ℕ) (ts : Targets) (at left : ℕ) : Type 0 where
  pub good : any_bad (options_in left (drop at msg)) ≡ false
  pub collected : Collected (once same_target (art_targets (options_of msg))) (art_targets (options_in left (drop at msg))) ts
  pub padded : Padded ts.count ts.list

-- an option in front of others that are not bad
module _ (kind : ℕ) (body : List ℕ) where
  first_good : (os : Option (List Opt)) → any_bad (followed_by (option_of kind body) os) ≡ false → bad_option (option_of kind body) ≡ false
  unfolding any
  first_good none e = true_false e
  first_good (some os) e = or_left (bad_option (option_of kind body)) (any bad_option os) e

  rest_good : (os : Option (List Opt)) → any_bad (followed_by (option_of kind body) os) ≡ false → any_bad os ≡ false
  unfolding any
  rest_good none e = true_false e
  rest_good (some os) e = or_right (bad_option (option_of kind body)) (any bad_option os) e

  other_first : (os : Option (List Opt)) → (kind ≡ art_type → ⊥) → art_targets (followed_by (option_of kind body) os) ≡ art_targets os
  unfolding those
  other_first none h = refl
  other_first (some os) h = rw (ne_eqb kind art_type h)

  art_first : (os : Option (List Opt)) → kind ≡ art_type → any_bad os ≡ false
      → art_targets (followed_by (option_of kind body) os) ≡ target_of body ∷ art_targets os
  unfolding those
  art_first none h e = true_false e
  art_first (some os) h e = rw (eq-eqb kind art_type h)

art_good_lem : (kind : ℕ) (body : List ℕ) → kind ≡ art_type → bad_option (option_of kind body) ≡ false → bad_art body ≡ false
unfolding bad_option
art_good_lem kind body e h = rw e at h

module _ {msg : List ℕ} {ts : Targets} {at left : ℕ} (v : Collecting msg ts at left) where
  -- no ART is to come
  gathered_none : art_targets (options_in left (drop at msg)) ≡ [] → Gathered (once same_target (art_targets (options_of msg))) ts
  gathered_none e = gathered (rw e at v.collected) v.padded

  pub gathered_out : left ≡ 0 → Gathered (once same_target (art_targets (options_of msg))) ts
  unfolding options_in those
  gathered_out h = gathered_none (rw h)

module _ {msg : List ℕ} {ts : Targets} {at left : ℕ} {n : Next} (w : Turn (Collecting msg ts at left) msg at left n) where
  pub gathered_end : n ≡ End → Gathered (once same_target (art_targets (options_of msg))) ts
  unfolding those
  gathered_end e = gathered_none w.inv (rw (end_next w e))

  pub gathered_cut : n ≡ Cut → Gathered (once same_target (art_targets (options_of msg))) ts
  gathered_cut e = gathered_none w.inv (rw (cut_next w e))

  pub collecting_pad : {more : ℕ} → n ≡ Pad → more ≡ left - 1 → Collecting msg ts (at + 1) more
  collecting_pad e m = rw m (record { good = rw (pad_next w e) at w.inv.good; collected = rw (pad_next w e) at w.inv.collected; padded = w.inv.padded })

  module _ {kind start end : ℕ} (e : n ≡ Body kind start end) where
    rest : Option (List Opt)
    rest = options_in (left - 1) (drop end msg)

    good_here : any_bad (followed_by (option_of kind (part_of msg start end)) rest) ≡ false
    unfolding rest
    good_here = sym (ap any_bad (body_next w e)) ∙ w.inv.good

    pub art_here : kind ≡ art_type → bad_art (part_of msg start end) ≡ false
    art_here k = art_good_lem kind _ k (first_good kind (part_of msg start end) rest good_here)

    pub collecting_other : {more : ℕ} → (kind ≡ art_type → ⊥) → more ≡ left - 1 → Collecting msg ts end more
    unfolding rest
    collecting_other k m = rw m (record {
      good = rest_good kind (part_of msg start end) rest good_here;
      collected = rw (body_next w e, other_first kind (part_of msg start end) rest k) at w.inv.collected;
      padded = w.inv.padded;
    })

    pub collecting_art : {r : Targets} {t : Target} {next : ℕ} → kind ≡ art_type → t ≡ target_of (part_of msg start end)
        → ((all more : List Target) → Collected all (t ∷ more) ts → Collected all more r)
        → (Padded ts.count ts.list → Padded r.count r.list) → next ≡ left - 1 → Collecting msg r end next
    unfolding rest
    collecting_art k q j b m = let g = rest_good kind (part_of msg start end) rest good_here in rw m (record {
      good = g;
      collected = j _ _ (rw q (rw (body_next w e, art_first kind (part_of msg start end) rest k g) at w.inv.collected));
      padded = b w.inv.padded;
    })
