-- Whether a table has room for new rows, by the searches for rows that are not live.
--     room_none, room_one, room_two     for a change with no new row, one, two
use Prim.Native.Nat.{ℕ, suc, ◌+◌}
use mathlib.Core.Path.{◌≡◌, refl, sym, ◌∙◌}
use mathlib.Core.Bool.{Bool, true, false, cond, not}
use mathlib.Core.List.{List, [], ◌∷◌, map}
use mathlib.Core.Option.{Option}
use native.Mathlib.Omega.{arith}
use native.Mathlib.Numerals.{add-one}
use lib.Dec.{leb, ltb, leb-suc-suc, leb-zero}
use lib.ListN.{length, drop, length-map}
use borrow.Author.Tests.{lt-ltb, le-leb}
use Rattle.plain.specs.Table.{Change, live, spare, has_room}
use Rattle.first.specs.First.{first, first_from}
use Rattle.first.specs.Spare.{dead}

ltb_suc : (a b c : ℕ) → c ≡ suc a → ltb a b ≡ ltb c (suc b)
ltb_suc a b c e = rw e (sym (leb-suc-suc (suc a) b))

module _ {A : Type 0} (deadline : A → Option ℕ) (t : ℕ) where
  pub spare_one : (rows : List (Option A)) → leb 1 (spare deadline t rows) ≡ ltb (first (dead deadline t) rows) (length rows)
  unfolding spare first
  spare_one [] = refl
  spare_one (o ∷ rows) = go (live deadline t o) (spare_one rows)
    where
      go : (y : Bool) → leb 1 (spare deadline t rows) ≡ ltb (first (dead deadline t) rows) (length rows)
          → leb 1 (cond y (spare deadline t rows) (suc (spare deadline t rows)))
          ≡ ltb (cond (not y) 0 (suc (first (dead deadline t) rows))) (suc (length rows))
      go true r = r ∙ ltb_suc (first (dead deadline t) rows) (length rows) _ refl
      go false r = le-leb 1 (suc (spare deadline t rows)) (omega arith) ∙ sym (lt-ltb 0 (suc (length rows)) (omega arith))

  -- the second row that is not live
  abbrev pub second : List (Option A) → ℕ
  second rows = suc (first (dead deadline t) rows) + first (dead deadline t) (drop (suc (first (dead deadline t) rows)) rows)

  -- the same, as a search from the row after the first
  pub second_from : (rows : List (Option A)) (k : ℕ) → k ≡ first (dead deadline t) rows → first_from (dead deadline t) (k + 1) rows ≡ second rows
  second_from rows k e = rw (e, add-one)

  spare_two : (rows : List (Option A)) → leb 2 (spare deadline t rows) ≡ ltb (second rows) (length rows)
  unfolding spare first
  spare_two [] = refl
  spare_two (o ∷ rows) = go (live deadline t o) (spare_two rows)
    where
      go : (y : Bool) → leb 2 (spare deadline t rows) ≡ ltb (second rows) (length rows)
          → leb 2 (cond y (spare deadline t rows) (suc (spare deadline t rows)))
          ≡ ltb
          (suc (cond (not y) 0 (suc (first (dead deadline t) rows)))
          + first (dead deadline t) (drop (cond (not y) 0 (suc (first (dead deadline t) rows))) rows))
          (suc (length rows))
      go true r = r ∙ ltb_suc (second rows) (length rows) _ (omega arith)
      go false r = leb-suc-suc 1 (spare deadline t rows) ∙ spare_one rows ∙ ltb_suc (first (dead deadline t) rows) (length rows) _ (omega arith)

  -- ---- over the records' meaning

  module _ {R : Type 0} (read : R → Option A) (rows : List R) (change : Change A) where
    pub room_none : length change.new ≡ 0 → has_room deadline t change (map read rows) ≡ true
    room_none e = rw e (leb-zero (spare deadline t (map read rows)))

    pub room_one : length change.new ≡ 1 → (k : ℕ) → k ≡ first (dead deadline t) (map read rows)
        → has_room deadline t change (map read rows) ≡ ltb k (length rows)
    room_one e k f = rw e (spare_one (map read rows) ∙ rw (← f, length-map rows read))

    pub room_two : length change.new ≡ 2 → (j k : ℕ) → j ≡ first (dead deadline t) (map read rows)
        → k ≡ first_from (dead deadline t) (j + 1) (map read rows) → has_room deadline t change (map read rows) ≡ ltb k (length rows)
    room_two e j k f g = rw e (spare_two (map read rows) ∙ rw (← second_from (map read rows) j f, ← g, length-map rows read))
