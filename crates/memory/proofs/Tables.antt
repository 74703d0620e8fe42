-- Tables, row by row: what is seen of a row, what becomes of it, and what holds of each row in use.
use Prim.Native.Nat.{ℕ, zero, suc, ◌≤◌}
use mathlib.Core.Path.{◌≡◌, refl, sym}
use mathlib.Core.Bool.{Bool, true, false, cond}
use mathlib.Core.List.{List, [], ◌∷◌, ◌++◌}
use mathlib.Core.Option.{Option, some, none}
use native.Mathlib.Omega.{arith}
use lib.Dec.{eqb}
use lib.ListN.{replicate}
use borrow.Author.Tests.{ltb-false, le-ltb}
use Rattle.plain.specs.Table.{Numbered, Change, lasts, becomes, live, live_from, placed_from}
use Rattle.plain.specs.Answers.{all_good}
use Rattle.plain.specs.Lists.{all}
use Rattle.lemmas.proofs.Choice.{cond_case, true_false, and_both}
use Rattle.lemmas.specs.Each.{Each}

-- a row that does not last at t does not last later
pub lasts_later : (t u : ℕ) (d : Option ℕ) → t ≤ u → lasts t d ≡ false → lasts u d ≡ false
lasts_later t u none h e = e
lasts_later t u (some d) h e = le-ltb u d (omega (arith, ltb-false t d e))

-- ---- Each row in use is so

abbrev pub Rows : {A : Type 0} → (A → Type 0) → List (Option A) → Type 0
Rows P [] = Unit {0}
Rows P (none ∷ rows) = Rows P rows
Rows P (some r ∷ rows) = P r × Rows P rows

module _ {A : Type 0} (P : A → Type 0) where
  pub rows_tail : (r : Option A) (rows : List (Option A)) → Rows P (r ∷ rows) → Rows P rows
  rows_tail none rows h = h
  rows_tail (some r) rows h = h.1

  pub rows_weaken : (Q : A → Type 0) → ((r : A) → P r → Q r) → (rows : List (Option A)) → Rows P rows → Rows Q rows
  rows_weaken Q f [] h = tt
  rows_weaken Q f (none ∷ rows) h = rows_weaken Q f rows h
  rows_weaken Q f (some r ∷ rows) h = (f r h.0, rows_weaken Q f rows h.1)

  pub unused_rows : (n : ℕ) → Rows P (replicate n none)
  unused_rows zero = tt
  unused_rows (suc n) = unused_rows n

  -- every row that a change writes is so
  abbrev pub Writes : Change A → Type 0
  Writes c = Each (λ (n : Numbered A). P n.row) c.become × Each P c.new

  pub becomes_so : (us : List (Numbered A)) (i : ℕ) (r : A) → Each (λ (n : Numbered A). P n.row) us → P r → P (becomes us i r)
  unfolding becomes
  becomes_so [] i r w h = h
  becomes_so (u ∷ us) i r w h = cond_case P (eqb u.number i) u.row (becomes us i r) (λ e. w.0) (λ e. becomes_so us i r w.1 h)

-- no row in use is wrong
pub rows_good : {A : Type 0} (good : A → Bool) (rows : List (Option A)) → Rows (λ (r : A). good r ≡ true) rows → all_good good rows ≡ true
unfolding all
rows_good good [] h = refl
rows_good good (none ∷ rows) h = rows_good good rows h
rows_good good (some r ∷ rows) h = and_both (good r) (all_good good rows) h.0 (rows_good good rows h.1)

-- ---- Tables

module _ {A : Type 0} (deadline : A → Option ℕ) where
  -- ---- One row at the front

  -- what a row shows
  abbrev pub shown : ℕ → ℕ → Option A → List (Numbered A)
  shown t i none = []
  shown t i (some r) = cond (lasts t (deadline r)) (record { number = i; row = r } ∷ []) []

  pub live_front : (t i : ℕ) (r : Option A) (rows : List (Option A))
      → live_from deadline t i (r ∷ rows) ≡ shown t i r ++ live_from deadline t (suc i) rows
  unfolding live_from
  live_front t i none rows = refl
  live_front t i (some r) rows = go (lasts t (deadline r))
    where
      go : (b : Bool)
          → cond b (record { number = i; row = r } ∷ live_from deadline t (suc i) rows) (live_from deadline t (suc i) rows)
          ≡ cond b (record { number = i; row = r } ∷ []) [] ++ live_from deadline t (suc i) rows
      go true = refl
      go false = refl

  pub dead_shows : (t i : ℕ) (r : Option A) → live deadline t r ≡ false → shown t i r ≡ []
  dead_shows t i none e = refl
  dead_shows t i (some r) e = rw e

  -- what becomes of a row that no new row takes
  abbrev pub kept : ℕ → List (Numbered A) → ℕ → Option A → Option A
  kept t us i none = none
  kept t us i (some r) = some (cond (lasts t (deadline r)) (becomes us i r) r)

  -- no new row is left
  pub placed_rest : (t : ℕ) (us : List (Numbered A)) (i : ℕ) (r : Option A) (rows : List (Option A))
      → placed_from deadline t us [] i (r ∷ rows) ≡ kept t us i r ∷ placed_from deadline t us [] (suc i) rows
  unfolding placed_from
  placed_rest t us i none rows = refl
  placed_rest t us i (some r) rows = refl

  -- a live row
  pub placed_live : (t : ℕ) (us : List (Numbered A)) (ns : List A) (i : ℕ) (r : Option A) (rows : List (Option A)) → live deadline t r ≡ true
      → placed_from deadline t us ns i (r ∷ rows) ≡ kept t us i r ∷ placed_from deadline t us ns (suc i) rows
  unfolding placed_from
  placed_live t us [] i r rows e = placed_rest t us i r rows
  placed_live t us (n ∷ ns) i none rows e = true_false (sym e)
  placed_live t us (n ∷ ns) i (some r) rows e = rw e

  -- a row that is not live, where a new row is left
  pub placed_dead : (t : ℕ) (us : List (Numbered A)) (n : A) (ns : List A) (i : ℕ) (r : Option A) (rows : List (Option A)) → live deadline t r ≡ false
      → placed_from deadline t us (n ∷ ns) i (r ∷ rows) ≡ some n ∷ placed_from deadline t us ns (suc i) rows
  unfolding placed_from
  placed_dead t us n ns i none rows e = refl
  placed_dead t us n ns i (some r) rows e = rw e

  -- a row that is not live, where no new row is left
  pub kept_dead : (t : ℕ) (us : List (Numbered A)) (i : ℕ) (r : Option A) → live deadline t r ≡ false → kept t us i r ≡ r
  kept_dead t us i none e = refl
  kept_dead t us i (some r) e = rw e

  pub dead_later : (t u : ℕ) (r : Option A) → t ≤ u → live deadline t r ≡ false → live deadline u r ≡ false
  dead_later t u none h e = refl
  dead_later t u (some r) h e = lasts_later t u (deadline r) h e

  -- ---- Rows that are so

  module _ (P : A → Type 0) where
    pub rows_live : (t i : ℕ) (rows : List (Option A)) → Rows P rows → Each (λ (n : Numbered A). P n.row) (live_from deadline t i rows)
    unfolding live_from
    rows_live t i [] h = tt
    rows_live t i (none ∷ rows) h = rows_live t (suc i) rows h
    rows_live t i (some r ∷ rows) h =
        cond_case (Each (λ (n : Numbered A). P n.row)) (lasts t (deadline r)) (record { number = i; row = r } ∷ live_from deadline t (suc i) rows)
        (live_from deadline t (suc i) rows) (λ e. (h.0, rows_live t (suc i) rows h.1)) (λ e. rows_live t (suc i) rows h.1)

    -- what a live row becomes is so
    abbrev pub Becomes : ℕ → List (Numbered A) → ℕ → List (Option A) → Type 0
    Becomes t us i [] = Unit {0}
    Becomes t us i (none ∷ rows) = Becomes t us (suc i) rows
    Becomes t us i (some r ∷ rows) = (lasts t (deadline r) ≡ true → P (becomes us i r)) × Becomes t us (suc i) rows

    becomes_tail : (t : ℕ) (us : List (Numbered A)) (i : ℕ) (r : Option A) (rows : List (Option A)) → Becomes t us i (r ∷ rows)
        → Becomes t us (suc i) rows
    becomes_tail t us i none rows h = h
    becomes_tail t us i (some r) rows h = h.1

    kept_row : (t : ℕ) (us : List (Numbered A)) (i : ℕ) (r : Option A) (rows rest : List (Option A)) → Rows P (r ∷ rows) → Becomes t us i (r ∷ rows)
        → Rows P rest → Rows P (kept t us i r ∷ rest)
    kept_row t us i none rows rest g b h = h
    kept_row t us i (some r) rows rest g b h = (cond_case P (lasts t (deadline r)) (becomes us i r) r b.0 (λ e. g.0), h)

    -- rows that are so, into which such rows are written
    pub placed_rows : (t : ℕ) (us : List (Numbered A)) (ns : List A) (i : ℕ) (rows : List (Option A)) → Rows P rows → Becomes t us i rows → Each P ns
        → Rows P (placed_from deadline t us ns i rows)
    unfolding placed_from
    placed_rows t us ns i [] g b w = tt
    placed_rows t us [] i (r ∷ rows) g b w =
        rw (placed_rest t us i r rows)
        (kept_row t us i r rows (placed_from deadline t us [] (suc i) rows) g b
        (placed_rows t us [] (suc i) rows (rows_tail P r rows g) (becomes_tail t us i r rows b) w))
    placed_rows t us (n ∷ ns) i (r ∷ rows) g b w =
        go (live deadline t r) refl (placed_rows t us (n ∷ ns) (suc i) rows (rows_tail P r rows g) (becomes_tail t us i r rows b) w)
        (placed_rows t us ns (suc i) rows (rows_tail P r rows g) (becomes_tail t us i r rows b) w.1)
      where
        go : (x : Bool) → live deadline t r ≡ x → Rows P (placed_from deadline t us (n ∷ ns) (suc i) rows)
            → Rows P (placed_from deadline t us ns (suc i) rows)
            → Rows P (placed_from deadline t us (n ∷ ns) i (r ∷ rows))
        go true e h k = rw (placed_live t us (n ∷ ns) i r rows e) (kept_row t us i r rows (placed_from deadline t us (n ∷ ns) (suc i) rows) g b h)
        go false e h k = rw (placed_dead t us n ns i r rows e) (w.0, k)

    -- where every row that is written is so
    pub writes_become : (t : ℕ) (us : List (Numbered A)) (i : ℕ) (rows : List (Option A)) → Each (λ (n : Numbered A). P n.row) us → Rows P rows
        → Becomes t us i rows
    writes_become t us i [] w g = tt
    writes_become t us i (none ∷ rows) w g = writes_become t us (suc i) rows w g
    writes_become t us i (some r ∷ rows) w g = (λ e. becomes_so P us i r w g.0, writes_become t us (suc i) rows w g.1)
