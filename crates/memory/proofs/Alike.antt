-- Two tables with the same live rows at the same numbers, the second at least as long as the first.
use Prim.Native.Nat.{ℕ, zero, suc, ◌≤◌}
use mathlib.Core.Path.{◌≡◌, refl, sym, ap}
use mathlib.Core.Bool.{Bool, true, false, cond, ◌&&◌}
use mathlib.Core.List.{List, [], ◌∷◌, ◌++◌}
use mathlib.Core.Option.{Option, none}
use mathlib.Core.Logic.{◌⊎◌, inl, inr}
use native.Mathlib.Omega.{arith}
use lib.ListN.{length, replicate}
use Rattle.plain.specs.Table.{Numbered, live, live_from, spare, placed_from}
use Rattle.plain.specs.Answers.{good_if, all_good}
use Rattle.plain.specs.Lists.{all}
use Rattle.lemmas.specs.Each.{Each}
use Rattle.lemmas.proofs.Each.{each_weaken}
use Rattle.memory.proofs.Tables.{shown, live_front, dead_shows, kept, placed_rest, placed_live, placed_dead, kept_dead, dead_later}

module _ {A : Type 0} (deadline : A → Option ℕ) (good : A → Bool) where
  -- neither live nor wrong
  abbrev pub Spent : ℕ → Option A → Type 0
  Spent t r = (live deadline t r ≡ false) × (good_if good r ≡ true)

  abbrev pub AllSpent : ℕ → List (Option A) → Type 0
  AllSpent t bs = Each (Spent t) bs

  -- the same row, or two that are spent
  abbrev pub RowAlike : ℕ → Option A → Option A → Type 0
  RowAlike t a b = (a ≡ b) ⊎ (Spent t a × Spent t b)

  -- row by row, and what the second has more is spent
  abbrev pub Alike : ℕ → List (Option A) → List (Option A) → Type 0
  Alike t [] bs = AllSpent t bs
  Alike t (a ∷ rows) [] = ⊥
  Alike t (a ∷ rows) (b ∷ bs) = RowAlike t a b × Alike t rows bs

  -- ---- What the rules see of two such tables

  spent_live : (t i : ℕ) (bs : List (Option A)) → AllSpent t bs → live_from deadline t i bs ≡ []
  unfolding live_from
  spent_live t i [] d = refl
  spent_live t i (b ∷ bs) d = rw (live_front deadline t i b bs, dead_shows deadline t i b d.0.0) (spent_live t (suc i) bs d.1)

  pub same_live : (t i : ℕ) (rows bs : List (Option A)) → Alike t rows bs → live_from deadline t i rows ≡ live_from deadline t i bs
  unfolding live_from
  same_live t i [] bs d = sym (spent_live t i bs d)
  same_live t i (a ∷ rows) [] d = absurd d
  same_live t i (a ∷ rows) (b ∷ bs) d =
      rw (live_front deadline t i a rows, live_front deadline t i b bs, same_live t (suc i) rows bs d.1) (go d.0)
    where
      go : RowAlike t a b → shown deadline t i a ++ live_from deadline t (suc i) bs ≡ shown deadline t i b ++ live_from deadline t (suc i) bs
      go (inl e) = rw e
      go (inr e) = rw (dead_shows deadline t i a e.0.0, dead_shows deadline t i b e.1.0)

  spent_good : (t : ℕ) (bs : List (Option A)) → AllSpent t bs → all_good good bs ≡ true
  unfolding all
  spent_good t [] d = refl
  spent_good t (b ∷ bs) d = rw d.0.1 (spent_good t bs d.1)

  pub same_good : (t : ℕ) (rows bs : List (Option A)) → Alike t rows bs → all_good good rows ≡ all_good good bs
  unfolding all
  same_good t [] bs d = sym (spent_good t bs d)
  same_good t (a ∷ rows) [] d = absurd d
  same_good t (a ∷ rows) (b ∷ bs) d = rw (same_good t rows bs d.1) (go d.0)
    where
      go : RowAlike t a b → good_if good a && all_good good bs ≡ good_if good b && all_good good bs
      go (inl e) = rw e
      go (inr e) = rw (e.0.1, e.1.1)

  -- ---- Placing

  -- the second has at least as many rows that are not live
  pub spare_more : (t : ℕ) (rows bs : List (Option A)) → Alike t rows bs → spare deadline t rows ≤ spare deadline t bs
  unfolding spare
  spare_more t [] bs d = omega arith
  spare_more t (a ∷ rows) [] d = absurd d
  spare_more t (a ∷ rows) (b ∷ bs) d = go d.0 (spare_more t rows bs d.1)
    where
      both : (x : Bool) → spare deadline t rows ≤ spare deadline t bs
          → cond x (spare deadline t rows) (suc (spare deadline t rows)) ≤ cond x (spare deadline t bs) (suc (spare deadline t bs))
      both true h = h
      both false h = omega arith

      go : RowAlike t a b → spare deadline t rows ≤ spare deadline t bs
          → cond (live deadline t a) (spare deadline t rows) (suc (spare deadline t rows)) ≤ cond (live deadline t b) (spare deadline t bs)
          (suc (spare deadline t bs))
      go (inl e) h = rw e (both (live deadline t b) h)
      go (inr e) h = rw (e.0.0, e.1.0) (omega arith)

  spent_placed : (t : ℕ) (us : List (Numbered A)) (i : ℕ) (bs : List (Option A)) → AllSpent t bs → AllSpent t (placed_from deadline t us [] i bs)
  unfolding placed_from
  spent_placed t us i [] d = tt
  spent_placed t us i (b ∷ bs) d =
      rw (placed_rest deadline t us i b bs, kept_dead deadline t us i b d.0.0) (d.0, spent_placed t us (suc i) bs d.1)

  -- where the new rows fit into the first table, they are placed alike in both
  pub placed_alike : (t : ℕ) (us : List (Numbered A)) (ns : List A) (i : ℕ) (rows bs : List (Option A)) → Alike t rows bs
      → length ns ≤ spare deadline t rows → Alike t (placed_from deadline t us ns i rows) (placed_from deadline t us ns i bs)
  unfolding placed_from spare
  placed_alike t us [] i [] bs d h = spent_placed t us i bs d
  placed_alike t us (n ∷ ns) i [] bs d h = absurd (omega arith)
  placed_alike t us ns i (a ∷ rows) [] d h = absurd d
  placed_alike t us [] i (a ∷ rows) (b ∷ bs) d h =
      rw (placed_rest deadline t us i a rows, placed_rest deadline t us i b bs) (go d.0, placed_alike t us [] (suc i) rows bs d.1 (omega arith))
    where
      go : RowAlike t a b → RowAlike t (kept deadline t us i a) (kept deadline t us i b)
      go (inl e) = inl (ap (kept deadline t us i) e)
      go (inr e) = rw (kept_dead deadline t us i a e.0.0, kept_dead deadline t us i b e.1.0) (inr e)
  placed_alike t us (n ∷ ns) i (a ∷ rows) (b ∷ bs) d h =
      go d.0 (placed_alike t us (n ∷ ns) (suc i) rows bs d.1) (placed_alike t us ns (suc i) rows bs d.1)
    where
      dead : live deadline t a ≡ false → live deadline t b ≡ false
          → (length ns ≤ spare deadline t rows → Alike t (placed_from deadline t us ns (suc i) rows) (placed_from deadline t us ns (suc i) bs))
          → Alike t (placed_from deadline t us (n ∷ ns) i (a ∷ rows)) (placed_from deadline t us (n ∷ ns) i (b ∷ bs))
      dead e f q =
          let k : suc (length ns) ≤ suc (spare deadline t rows) = rw e at h in
          rw (placed_dead deadline t us n ns i a rows e, placed_dead deadline t us n ns i b bs f) (inl refl, q (omega arith))

      same : a ≡ b → (x : Bool) → live deadline t a ≡ x
          → (suc (length ns) ≤ spare deadline t rows → Alike t (placed_from deadline t us (n ∷ ns) (suc i) rows)
          (placed_from deadline t us (n ∷ ns) (suc i) bs))
          → (length ns ≤ spare deadline t rows → Alike t (placed_from deadline t us ns (suc i) rows) (placed_from deadline t us ns (suc i) bs))
          → Alike t (placed_from deadline t us (n ∷ ns) i (a ∷ rows)) (placed_from deadline t us (n ∷ ns) i (b ∷ bs))
      same e true f p q =
          let k : suc (length ns) ≤ spare deadline t rows = rw f at h in
          rw (placed_live deadline t us (n ∷ ns) i a rows f, placed_live deadline t us (n ∷ ns) i b bs (rw e at f))
          (inl (ap (kept deadline t us i) e), p k)
      same e false f p q = dead f (rw e at f) q

      go : RowAlike t a b
          → (suc (length ns) ≤ spare deadline t rows → Alike t (placed_from deadline t us (n ∷ ns) (suc i) rows)
          (placed_from deadline t us (n ∷ ns) (suc i) bs))
          → (length ns ≤ spare deadline t rows → Alike t (placed_from deadline t us ns (suc i) rows) (placed_from deadline t us ns (suc i) bs))
          → Alike t (placed_from deadline t us (n ∷ ns) i (a ∷ rows)) (placed_from deadline t us (n ∷ ns) i (b ∷ bs))
      go (inl e) p q = same e (live deadline t a) refl p q
      go (inr e) p q = dead e.0.0 e.1.0 q

  -- ---- As time goes on

  spent_later : (t u : ℕ) (r : Option A) → t ≤ u → Spent t r → Spent u r
  spent_later t u r h d = (dead_later deadline t u r h d.0, d.1)

  pub alike_later : (t u : ℕ) (rows bs : List (Option A)) → t ≤ u → Alike t rows bs → Alike u rows bs
  alike_later t u [] bs h d = each_weaken (Spent t) (Spent u) (λ b. spent_later t u b h) bs d
  alike_later t u (a ∷ rows) [] h d = absurd d
  alike_later t u (a ∷ rows) (b ∷ bs) h d = (go d.0, alike_later t u rows bs h d.1)
    where
      go : RowAlike t a b → RowAlike u a b
      go (inl e) = inl e
      go (inr e) = inr (spent_later t u a h e.0, spent_later t u b h e.1)

  -- ---- Tables of which no row is in use

  unused_spent : (t k : ℕ) → AllSpent t (replicate k none)
  unused_spent t zero = tt
  unused_spent t (suc k) = ((refl, refl), unused_spent t k)

  pub unused_alike : (t n k : ℕ) → n ≤ k → Alike t (replicate n none) (replicate k none)
  unused_alike t zero k h = unused_spent t k
  unused_alike t (suc n) zero h = absurd (omega arith)
  unused_alike t (suc n) (suc k) h = (inl refl, unused_alike t n k (omega arith))
