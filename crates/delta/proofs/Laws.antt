-- The Deltas that are tried, one after the other.
use Prim.Native.Nat.{ℕ, zero, suc, ◌+◌, ◌≤◌}
use mathlib.Core.Path.{◌≡◌, refl, sym, ap, ◌∙◌}
use mathlib.Core.Bool.{Bool, true, false, cond, not}
use mathlib.Core.List.{List, [], map}
use mathlib.Core.Option.{some}
use native.Mathlib.Omega.{arith}
use native.Mathlib.Numerals.{add-one}
use Rattle.std.specs.Prelude as core
use Rattle.std.specs.Prelude.{Some, None}
use Rattle.std.specs.Option.{option_map, is_none}
use Rattle.std.specs.List.{find, range_with_len}
use Rattle.lemmas.specs.Optional.{of_option}
use Rattle.plain.specs.Address.{Address}
use Rattle.plain.specs.Answers.{reply_for}
use Rattle.plain.specs.Rank.{plus_delta}
use Rattle.plain.specs.Request.{least_delta, delta_taken, free_delta}
use Rattle.row.specs.Meaning.{instance_of}
use Rattle.keyed.specs.Look.{reply_here}
use Rattle.keyed.proofs.Laws.{reply_sort}
use Rattle.row.specs.declared.InstanceRow.{InstanceRow}
use Rattle.first.specs.First.{first, found_at}
use Rattle.first.proofs.Library.{found_told}
use Rattle.first.proofs.Found.{sort_any}
use Rattle.search.specs.Seen.{seen_at}
use Rattle.search.proofs.Laws.{reply_ask}
use Rattle.delta.specs.Delta.{delta_seen}

-- the first that is not taken is the least
least_found : (taken free : ℕ → Bool) → ((d : ℕ) → taken d ≡ not (free d)) → (d n : ℕ)
    → of_option (find free (range_with_len d n)) ≡ least_delta taken d n
unfolding least_delta
least_found taken free e d zero = refl
least_found taken free e d (suc n) = rw (e d, add-one) (go (free d) (least_found taken free e (suc d) n))
  where
    go : (b : Bool) → of_option (find free (range_with_len (suc d) n)) ≡ least_delta taken (suc d) n
        → of_option (cond b (Some d) (find free (range_with_len (suc d) n))) ≡ cond (not b) (least_delta taken (suc d) n) (some d)
    go true f = refl
    go false f = f

module _ (rows : List InstanceRow) (t instance : ℕ) (dodagid : Address) where
  -- "not in use by a live reply row with that DODAGID": asked for each Delta by a search
  abbrev pub is_free : ℕ → Bool
  is_free delta = is_none (found_at (reply_here t (plus_delta instance delta) dodagid) (map instance_of rows))

  module _ (clock : ℕ) (l : clock ≤ t) where
    taken_told : (delta : ℕ) → delta_taken (seen_at clock rows []) t instance dodagid delta ≡ not (is_free delta)
    unfolding delta_taken
    taken_told delta =
        sort_any reply_sort (reply_for t (plus_delta instance delta) dodagid) t (reply_ask t (plus_delta instance delta) dodagid).lives rows
        (first (reply_here t (plus_delta instance delta) dodagid) (map instance_of rows)) refl clock l
        ∙ sym (found_told instance_of (reply_here t (plus_delta instance delta) dodagid) rows _ refl)
        ∙ twice _
      where
        twice : (b : Bool) → b ≡ not (not b)
        twice true = refl
        twice false = refl

  pub found_free : (r : core.Option ℕ) → option_map (λ x. x) r ≡ find is_free (range_with_len 0 64)
      → (clock : ℕ) → clock ≤ t → of_option r ≡ delta_seen clock rows t instance dodagid
  unfolding delta_seen free_delta
  found_free r e clock l =
      ap of_option (same r ∙ e) ∙ least_found (delta_taken (seen_at clock rows []) t instance dodagid) is_free (taken_told clock l) 0 64
    where
      same : (r : core.Option ℕ) → r ≡ option_map (λ x. x) r
      same None = refl
      same (Some d) = refl
