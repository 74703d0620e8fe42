-- When a row is good.
use Prim.Native.Nat.{ℕ, ◌+◌, ◌≤◌, ◌<◌}
use mathlib.Core.Path.{◌≡◌, refl}
use mathlib.Core.Bool.{Bool, true, false, cond, ◌&&◌}
use mathlib.Core.List.{List, ◌∷◌}
use mathlib.Core.Option.{some, none}
use native.Mathlib.Omega.{arith}
use lib.Dec.{eqb, leb}
use lib.ListN.{length, get_or, take, drop, drop_of_length-le}
use lib.Seq.{take-take, get_or-take, length-take-le}
use borrow.Author.Tests.{le-leb, lt-leb}
use Rattle.plain.specs.Lists.{all}
use Rattle.plain.specs.Given.{Instance}
use Rattle.plain.specs.Answers.{short_prefix, good_if, good_deadline, good_instance}
use Rattle.plain.specs.declared.Target.{Target}
use Rattle.lemmas.proofs.Choice.{and_right, and_both}
use Rattle.lemmas.proofs.Walk.{left_at, all_take}
use Rattle.lemmas.proofs.Targets.{target_past}
use Rattle.row.specs.Meaning.{deadline_of, targets_of, request_of, reply_of, instance_of}
use Rattle.row.specs.declared.InstanceRow.{InstanceRow}
use Rattle.row.proofs.Laws.{length_targets, targets_within}

-- of at most four targets, of which the first four are good, each is good
pub few_good : (count : ℕ) (ts : List Target) → length ts ≡ 8 → count ≤ 4
    → leb (length (targets_of 4 ts)) 8 && all short_prefix (targets_of 4 ts) ≡ true
    → leb (length (targets_of count ts)) 8 && all short_prefix (targets_of count ts) ≡ true
few_good count ts eight few g =
    let four : all short_prefix (take 4 ts) ≡ true =
    rw (targets_within 4 ts (omega arith)) at (and_right (leb (length (targets_of 4 ts)) 8) (all short_prefix (targets_of 4 ts)) g) in
    let own : all short_prefix (targets_of count ts) ≡ true =
    rw (targets_within count ts (omega arith), ← take-take count 4 ts few) (all_take short_prefix count (take 4 ts) four) in
    and_both (leb (length (targets_of count ts)) 8) (all short_prefix (targets_of count ts))
    (rw (length_targets count ts) (le-leb count 8 (omega arith))) own

-- such a row with a good deadline is good, whatever its kind
pub plainly_good : (r : InstanceRow)
    → leb (length (targets_of r.count r.targets)) 8 && all short_prefix (targets_of r.count r.targets) ≡ true
    → good_deadline (deadline_of r.endless r.deadline) ≡ true → good_if good_instance (instance_of r) ≡ true
unfolding instance_of request_of reply_of good_instance
plainly_good r g d = go (eqb r.kind 1) (eqb r.kind 2)
  where
    go : (a b : Bool)
        → good_if good_instance (cond a (some (Instance.request (request_of r))) (cond b (some (Instance.reply (reply_of r))) none)) ≡ true
    go true b =
        and_both (leb (length (targets_of r.count r.targets)) 8 && all short_prefix (targets_of r.count r.targets))
        (good_deadline (deadline_of r.endless r.deadline)) g d
    go false true = d
    go false false = refl

-- ---- what is asked of targets

module _ (count : ℕ) (ts : List Target) (eight : length ts ≡ 8) where
  pub count_over : 8 < count → leb (length (targets_of count ts)) 8 && all short_prefix (targets_of count ts) ≡ false
  count_over h = rw (length_targets count ts, lt-leb count 8 h)

  pub count_within : count ≤ 8 → leb (length (targets_of count ts)) 8 && all short_prefix (targets_of count ts) ≡ all short_prefix (take count ts)
  count_within h = rw (length_targets count ts, le-leb count 8 h, targets_within count ts (omega arith))

  module _ (i : ℕ) (most : count ≤ 8) where
    -- the targets within the count that are left at i
    left_within : i < count → drop i (take count ts) ≡ get_or ts i target_past ∷ drop (i + 1) (take count ts)
    left_within h =
        rw (← get_or-take count ts i target_past h) (left_at (take count ts) i target_past (omega (arith, length-take-le count ts (omega arith))))

    pub good_on : i < count → (get_or ts i target_past).plen ≤ 127 → all short_prefix (drop i (take count ts)) ≡ all short_prefix (drop (i + 1) (take count ts))
    unfolding all
    good_on h g = rw (left_within h, le-leb (get_or ts i target_past).plen 127 g)

    pub good_stop : i < count → 127 < (get_or ts i target_past).plen → all short_prefix (drop i (take count ts)) ≡ false
    unfolding all
    good_stop h g = rw (left_within h, lt-leb (get_or ts i target_past).plen 127 g)

    pub good_end : count ≤ i → all short_prefix (drop i (take count ts)) ≡ true
    unfolding all
    good_end h = rw (drop_of_length-le (take count ts) {i = i} (omega (arith, length-take-le count ts (omega arith))))
