-- One more target collected.
use Prim.Native.Nat.{ℕ, ◌+◌, ◌≤◌, ◌<◌}
use mathlib.Core.Path.{◌≡◌, refl, sym, ap, ◌∙◌}
use mathlib.Core.Bool.{Bool, true, false}
use mathlib.Core.List.{List, [], ◌∷◌, ◌++◌, append-nil}
use native.Mathlib.Omega.{arith}
use native.Mathlib.Numerals.{add-one}
use lib.Dec.{ltb}
use lib.ListN.{length, take, drop, set, replicate, length-append, length-set}
use lib.Seq.{length-take-le, take-suc-set, drop-set-lt, drop-drop, append_snoc, set_out}
use borrow.Author.Tests.{lt-ltb, le-ltb, ltb-true, ltb-false, eq-eqb}
use Rattle.lemmas.proofs.Choice.{true_false}
use Rattle.plain.specs.Lists.{any, once_after, once}
use Rattle.plain.specs.Octets.{same_target, most_targets}
use Rattle.plain.specs.Blank.{no_target, Padded}
use Rattle.plain.specs.declared.Target.{Target}
use Rattle.targets.specs.declared.Targets.{Targets}
use Rattle.targets.specs.declared.Count.{Count}
use Rattle.targets.specs.Collected.{none_yet, targets_in, Collected, place_for, counted, Joined, Gathered}

module _ {all rest list : List Target} {c : Count} {t : Target} (v : Collected all (t ∷ rest) (targets_in list c)) where
  collected_again : any (same_target t) (take c.n list) ≡ true → Collected all rest (targets_in list c)
  unfolding once_after
  collected_again e = record {
    few = v.few;
    room = v.room;
    many = v.many;
    held = λ f. rw e at (v.held f);
  }

  module _ (e : any (same_target t) (take c.n list) ≡ false) where
    -- those after it, where it is new
    after : List Target
    after = once_after same_target (take c.n list ++ (t ∷ [])) rest

    new : c.over ≡ false → all ≡ take c.n list ++ t ∷ after
    unfolding once_after after
    new o = rw e at (v.held o)

    collected_more : c.n < 8 → Collected all rest (record { over = c.over; count = c.n + 1; list = set list c.n t })
    unfolding after
    collected_more h = record {
      few = omega arith;
      room = length-set list c.n t ∙ v.room;
      many = v.many;
      held = λ o.
          new o
          ∙ rw (add-one, take-suc-set list c.n t (omega (arith, v.room)))
          (sym (append_snoc (take c.n list) t after));
    }

    over_eight : 8 ≤ c.n → (b : Bool) → c.over ≡ b → 8 < length all
    over_eight h true o = v.many o
    over_eight h false o =
        let n = length-take-le c.n list (omega (arith, v.room, v.few)) in
        omega (arith, ap length (new o), length-append (take c.n list) (t ∷ after), n, v.few)

    collected_full : 8 ≤ c.n → Collected all rest (record { over = true; count = c.n; list = list })
    collected_full h = record {
      few = v.few;
      room = v.room;
      many = λ _. over_eight h c.over refl;
      held = λ f. true_false f;
    }

-- behind one more the list stays blank
pub padded_more : (n : ℕ) (list : List Target) (t : Target) → Padded n list → Padded (n + 1) (set list n t)
padded_more n list t p =
    drop-set-lt (n + 1) list n t (omega arith)
    ∙ sym (drop-drop 1 n list)
    ∙ ap (drop 1) p
    ∙ drop-drop 1 n (replicate 8 no_target)

-- one more, at the place that is for it
module _ (c : Count) (list : List Target) (t : Target) (few : c.n ≤ 8) (room : length list ≡ 8) where
  joined_again : any (same_target t) (take c.n list) ≡ true → Joined c list t (counted c 9) (set list 9 t)
  joined_again e = rw (set_out list 9 t (omega arith)) (record { collected = λ all rest v. collected_again v e; padded = λ p. p })

  joined_more : any (same_target t) (take c.n list) ≡ false → c.n < 8 → Joined c list t (counted c c.n) (set list c.n t)
  joined_more e h = rw (lt-ltb c.n 8 h) (record { collected = λ all rest v. collected_more v e h; padded = padded_more c.n list t })

  joined_full : any (same_target t) (take c.n list) ≡ false → c.n ≡ 8 → Joined c list t (counted c c.n) (set list c.n t)
  joined_full e h =
      rw (set_out list c.n t (omega arith), le-ltb c.n 8 (omega arith), eq-eqb c.n 8 h)
      (record { collected = λ all rest v. collected_full v e (omega arith); padded = λ p. p })

  pub joined : Joined c list t (counted c (place_for (any (same_target t) (take c.n list)) c.n))
      (set list (place_for (any (same_target t) (take c.n list)) c.n) t)
  joined = go (any (same_target t) (take c.n list)) refl (ltb c.n 8) refl
    where
      go : (b : Bool) → any (same_target t) (take c.n list) ≡ b → (d : Bool) → ltb c.n 8 ≡ d
          → Joined c list t (counted c (place_for b c.n)) (set list (place_for b c.n) t)
      go true e d f = joined_again e
      go false e true f = joined_more e (ltb-true c.n 8 f)
      go false e false f = joined_full e (omega (arith, few, ltb-false c.n 8 f))

-- nothing is collected, and all are to come
pub none_collected : (all : List Target) → Collected (once same_target all) all (targets_in (replicate 8 no_target) none_yet)
none_collected all = record { few = omega arith; room = refl; many = λ h. true_false (sym h); held = λ _. refl }

-- none are to come
module _ {all : List Target} {ts : Targets} (v : Collected all [] ts) (padded : Padded ts.count ts.list) where
  all_held : ts.over ≡ false → take ts.count ts.list ≡ all
  unfolding once_after
  all_held e = sym (v.held e ∙ append-nil (take ts.count ts.list))

  pub gathered : Gathered all ts
  gathered = record { over = go ts.over refl; few = v.few; room = v.room; held = all_held; padded = padded }
    where
      go : (b : Bool) → ts.over ≡ b → b ≡ ltb most_targets (length all)
      go true e = sym (lt-ltb most_targets (length all) (v.many e))
      go false e =
          let n = length-take-le ts.count ts.list (omega (arith, v.few, v.room)) in
          let l : length (take ts.count ts.list) ≤ 8 = omega (arith, n, v.few) in
          sym (le-ltb most_targets (length all) (rw (all_held e) at l))
