-- Stores into a lent table are what an accepted call does to the plain node's table.
--     store_become      a live row that becomes another
--     store_new         a new row, at the first row that is not live
--     store_new_two     two new rows, at the first two
--     store_become_new  a live row that becomes another, and a new row
--     store_none        nothing
-- A store keeps every other row with all its fields: that is what `set` says.
use Prim.Native.Nat.{ℕ, zero, suc, ◌+◌, ◌<◌}
use mathlib.Core.Path.{◌≡◌, refl, sym, ap, ◌∙◌}
use mathlib.Core.Bool.{Bool, true, false, cond, not}
use mathlib.Core.List.{List, [], ◌∷◌, map}
use mathlib.Core.Option.{Option, some, none}
use native.Mathlib.Omega.{arith}
use lib.ListN.{length, get_or, set, drop, length-map}
use lib.Seq.{set_comm}
use borrow.Author.Tests.{eq-eqb, ne_eqb, not-true}
use Rattle.plain.specs.Table.{Numbered, no_change, put, lasts, live, becomes, placed_from, placed}
use Rattle.lemmas.proofs.Choice.{true_false}
use Rattle.first.specs.First.{first, first_from}
use Rattle.first.specs.Spare.{dead}
use Rattle.first.proofs.Search.{map_set}
use Rattle.first.proofs.Found.{read_at, found_true}
use Rattle.first.proofs.Room.{second, second_from}

becomes_here : {A : Type 0} (us : List (Numbered A)) (m i : ℕ) (a r : A) → m ≡ i → becomes (record { number = m; row = r } ∷ us) i a ≡ r
unfolding becomes
becomes_here us m i a r e = rw (eq-eqb m i e)

becomes_other : {A : Type 0} (us : List (Numbered A)) (m i : ℕ) (a r : A) → (m ≡ i → ⊥) → becomes (record { number = m; row = r } ∷ us) i a
    ≡ becomes us i a
unfolding becomes
becomes_other us m i a r e = rw (ne_eqb m i e)

-- What becomes of one row, live or not, and which new rows are left for those after it.
abbrev head_of : {A : Type 0} → Bool → List (Numbered A) → List A → ℕ → Option A → Option A
head_of true us ns i none = none
head_of true us ns i (some a) = some (becomes us i a)
head_of false us [] i o = o
head_of false us (n ∷ ns) i o = some n

abbrev rest_of : {A : Type 0} → Bool → List A → List A
rest_of true ns = ns
rest_of false [] = []
rest_of false (n ∷ ns) = ns

head_other : {A : Type 0} (y : Bool) (us : List (Numbered A)) (ns : List A) (i : ℕ) (o : Option A) (m : ℕ) (r : A) → (m ≡ i → ⊥)
    → head_of y (record { number = m; row = r } ∷ us) ns i o ≡ head_of y us ns i o
head_other true us ns i none m r e = refl
head_other true us ns i (some a) m r e = ap some (becomes_other us m i a r e)
head_other false us [] i o m r e = refl
head_other false us (n ∷ ns) i o m r e = refl

head_live : {A : Type 0} (us : List (Numbered A)) (ns ms : List A) (i : ℕ) (o : Option A) → head_of true us ns i o ≡ head_of true us ms i o
head_live us ns ms i none = refl
head_live us ns ms i (some a) = refl

module _ {A : Type 0} (deadline : A → Option ℕ) (t : ℕ) where
  step : (us : List (Numbered A)) (ns : List A) (i : ℕ) (o : Option A) (rows : List (Option A))
      → placed_from deadline t us ns i (o ∷ rows)
      ≡ head_of (live deadline t o) us ns i o ∷ placed_from deadline t us (rest_of (live deadline t o) ns) (suc i) rows
  unfolding placed_from
  step us [] i none rows = refl
  step us (n ∷ ns) i none rows = refl
  step us [] i (some a) rows = go (lasts t (deadline a))
    where
      go : (y : Bool)
          → some (cond y (becomes us i a) a) ∷ placed_from deadline t us [] (suc i) rows
          ≡ head_of y us [] i (some a) ∷ placed_from deadline t us (rest_of y []) (suc i) rows
      go true = refl
      go false = refl
  step us (n ∷ ns) i (some a) rows = go (lasts t (deadline a))
    where
      go : (y : Bool)
          → cond y (some (becomes us i a) ∷ placed_from deadline t us (n ∷ ns) (suc i) rows) (some n ∷ placed_from deadline t us ns (suc i) rows)
          ≡ head_of y us (n ∷ ns) i (some a) ∷ placed_from deadline t us (rest_of y (n ∷ ns)) (suc i) rows
      go true = refl
      go false = refl

  -- ---- no change

  placed_nil : (us : List (Numbered A)) (ns : List A) (i : ℕ) → placed_from deadline t us ns i [] ≡ []
  unfolding placed_from
  placed_nil us ns i = refl

  pub placed_none : (i : ℕ) (rows : List (Option A)) → placed_from deadline t [] [] i rows ≡ rows
  unfolding becomes
  placed_none i [] = placed_nil [] [] i
  placed_none i (o ∷ rows) = rw (step [] [] i o rows) (go (live deadline t o) o (placed_none (suc i) rows))
    where
      go : (y : Bool) (o : Option A) → placed_from deadline t [] [] (suc i) rows ≡ rows
          → head_of y [] [] i o ∷ placed_from deadline t [] (rest_of y []) (suc i) rows ≡ o ∷ rows
      go true none r = rw r
      go true (some a) r = rw r
      go false o r = rw r

  -- ---- a live row becomes another

  past : (m : ℕ) (r : A) (us : List (Numbered A)) (ns : List A) (i : ℕ) (rows : List (Option A)) → m < i
      → placed_from deadline t (record { number = m; row = r } ∷ us) ns i rows ≡ placed_from deadline t us ns i rows
  past m r us ns i [] h = placed_nil (record { number = m; row = r } ∷ us) ns i ∙ sym (placed_nil us ns i)
  past m r us ns i (o ∷ rows) h =
      rw (
        step (record { number = m; row = r } ∷ us) ns i o rows,
        step us ns i o rows,
        head_other (live deadline t o) us ns i o m r (λ e. absurd (omega arith)),
        past m r us (rest_of (live deadline t o) ns) (suc i) rows (omega arith),
      )

  become_from : (r : A) (us : List (Numbered A)) (ns : List A) (i k : ℕ) (rows : List (Option A)) → k < length rows
      → live deadline t (get_or rows k none) ≡ true
      → placed_from deadline t (record { number = i + k; row = r } ∷ us) ns i rows ≡ set (placed_from deadline t us ns i rows) k (some r)
  become_from r us ns i k [] h l = absurd (omega arith)
  become_from r us ns i zero (none ∷ rows) h l = true_false (sym l)
  become_from r us ns i zero (some a ∷ rows) h l =
      rw (
        step (record { number = i + 0; row = r } ∷ us) ns i (some a) rows,
        step us ns i (some a) rows,
        l,
        becomes_here us (i + 0) i a r (omega arith),
        past (i + 0) r us ns (suc i) rows (omega arith),
      )
  become_from r us ns i (suc k) (o ∷ rows) h l =
      let e : suc i + k ≡ i + suc k = omega arith in
      rw (
        step (record { number = i + suc k; row = r } ∷ us) ns i o rows,
        step us ns i o rows,
        head_other (live deadline t o) us ns i o (i + suc k) r (λ e. absurd (omega arith)),
        ← e,
        become_from r us (rest_of (live deadline t o) ns) (suc i) k rows (omega arith) l,
      )

  placed_become : (r : A) (us : List (Numbered A)) (ns : List A) (k : ℕ) (rows : List (Option A)) → k < length rows
      → live deadline t (get_or rows k none) ≡ true
      → placed_from deadline t (record { number = k; row = r } ∷ us) ns 0 rows ≡ set (placed_from deadline t us ns 0 rows) k (some r)
  placed_become r us ns k rows h l =
      let e : 0 + k ≡ k = omega arith in
      rw e at (become_from r us ns 0 k rows h l)

  -- ---- new rows

  new_from : (us : List (Numbered A)) (w : A) (i : ℕ) (rows : List (Option A)) → first (dead deadline t) rows < length rows
      → placed_from deadline t us (w ∷ []) i rows ≡ set (placed_from deadline t us [] i rows) (first (dead deadline t) rows) (some w)
  unfolding first
  new_from us w i [] h = absurd (omega arith)
  new_from us w i (o ∷ rows) h =
      rw (step us (w ∷ []) i o rows, step us [] i o rows) (go (live deadline t o) (new_from us w (suc i) rows) h)
    where
      go : (y : Bool)
          → (first (dead deadline t) rows < length rows
          → placed_from deadline t us (w ∷ []) (suc i) rows ≡ set (placed_from deadline t us [] (suc i) rows) (first (dead deadline t) rows) (some w))
          → cond (not y) 0 (suc (first (dead deadline t) rows)) < suc (length rows)
          → head_of y us (w ∷ []) i o ∷ placed_from deadline t us (rest_of y (w ∷ [])) (suc i) rows
          ≡ set (head_of y us [] i o ∷ placed_from deadline t us (rest_of y []) (suc i) rows) (cond (not y) 0 (suc (first (dead deadline t) rows)))
          (some w)
      go true r h = rw (head_live us (w ∷ []) [] i o, r (omega arith))
      go false r h = refl

  new_two_from : (us : List (Numbered A)) (v w : A) (i : ℕ) (rows : List (Option A)) → second deadline t rows < length rows
      → placed_from deadline t us (v ∷ w ∷ []) i rows
      ≡ set (set (placed_from deadline t us [] i rows) (first (dead deadline t) rows) (some v)) (second deadline t rows) (some w)
  unfolding first
  new_two_from us v w i [] h = absurd (omega arith)
  new_two_from us v w i (o ∷ rows) h =
      rw (step us (v ∷ w ∷ []) i o rows, step us [] i o rows) (go (live deadline t o) (new_two_from us v w (suc i) rows) h)
    where
      go : (y : Bool)
          → (second deadline t rows < length rows
          → placed_from deadline t us (v ∷ w ∷ []) (suc i) rows
          ≡ set (set (placed_from deadline t us [] (suc i) rows) (first (dead deadline t) rows) (some v)) (second deadline t rows) (some w))
          → suc (cond (not y) 0 (suc (first (dead deadline t) rows)))
          + first (dead deadline t) (drop (cond (not y) 0 (suc (first (dead deadline t) rows))) rows) < suc (length rows)
          → head_of y us (v ∷ w ∷ []) i o ∷ placed_from deadline t us (rest_of y (v ∷ w ∷ [])) (suc i) rows
          ≡ set
          (set (head_of y us [] i o ∷ placed_from deadline t us (rest_of y []) (suc i) rows) (cond (not y) 0 (suc (first (dead deadline t) rows)))
          (some v))
          (suc (cond (not y) 0 (suc (first (dead deadline t) rows)))
          + first (dead deadline t) (drop (cond (not y) 0 (suc (first (dead deadline t) rows))) rows))
          (some w)
      go true r h =
          let e : suc (suc (first (dead deadline t) rows)) + first (dead deadline t) (drop (suc (first (dead deadline t) rows)) rows) ≡ suc
          (second deadline t rows) =
          omega arith in
          rw (e, head_live us (v ∷ w ∷ []) [] i o, r (omega arith))
      go false r h =
          let e : 1 + first (dead deadline t) rows ≡ suc (first (dead deadline t) rows) = omega arith in
          rw (e, new_from us w (suc i) rows (omega arith))

-- ---- the same of records, whose meaning is what `read` says

module _ {R A : Type 0} (read : R → Option A) (deadline : A → Option ℕ) (t : ℕ) (rows : List R) (d : R) where
  pub store_none : placed deadline t no_change (map read rows) ≡ map read rows
  store_none = placed_none deadline t 0 (map read rows)

  -- a live row is not the first that is not live
  apart : (j k : ℕ) → live deadline t (read (get_or rows k d)) ≡ true → j ≡ first (dead deadline t) (map read rows) → j < length rows → j ≡ k → ⊥
  apart j k l e h q =
      let f : live deadline t (read (get_or rows j d)) ≡ false = not-true _ (found_true read (dead deadline t) rows j d e h) in
      true_false (sym l ∙ rw q at f)

  -- the row at k is live, and becomes what `new` means
  pub store_become : {B : Type 0} (n : Numbered B) (k : ℕ) (new : R) (row : A) → n.number ≡ k → k < length rows
      → live deadline t (read (get_or rows k d)) ≡ true → read new ≡ some row
      → map read (set rows k new) ≡ placed deadline t (put (some n) row) (map read rows)
  store_become n k new row e h l g =
      rw (map_set read rows k new, g, e)
      (sym (placed_become deadline t row [] [] k (map read rows) (rw (length-map rows read) h) (rw (read_at read rows k d none h) l)
      ∙ ap (λ (z : List (Option _)). set z k (some row)) store_none))

  -- the row at k is the first that is not live
  pub store_new : (k : ℕ) (new : R) (row : A) → k ≡ first (dead deadline t) (map read rows) → k < length rows → read new ≡ some row
      → map read (set rows k new) ≡ placed deadline t (record { become = []; new = row ∷ [] }) (map read rows)
  store_new k new row e h g =
      rw (map_set read rows k new, g, e)
      (sym (new_from deadline t [] row 0 (map read rows) (rw (← e, length-map rows read) h)
      ∙ ap (λ (z : List (Option _)). set z (first (dead deadline t) (map read rows)) (some row)) store_none))

  -- the rows at j and k are the first two that are not live
  pub store_new_two : (j k : ℕ) (one two : R) (a b : A) → j ≡ first (dead deadline t) (map read rows)
      → k ≡ first_from (dead deadline t) (j + 1) (map read rows) → k < length rows → read one ≡ some a → read two ≡ some b
      → map read (set (set rows j one) k two) ≡ placed deadline t (record { become = []; new = a ∷ b ∷ [] }) (map read rows)
  store_new_two j k one two a b e f h g q =
      let s : k ≡ second deadline t (map read rows) = f ∙ second_from deadline t (map read rows) j e in
      rw (map_set read (set rows j one) k two, map_set read rows j one, g, q)
      (sym (new_two_from deadline t [] a b 0 (map read rows) (rw (← s, length-map rows read) h)
      ∙ rw (← s, ← e) (ap (λ (z : List (Option _)). set (set z j (some a)) k (some b)) store_none)))

  -- the row at k is live, and becomes what `old` means; the row at j is the first that is not live
  pub store_become_new : (j k : ℕ) (old new : R) (a b : A) → k < length rows → live deadline t (read (get_or rows k d)) ≡ true
      → j ≡ first (dead deadline t) (map read rows) → j < length rows → read old ≡ some a → read new ≡ some b
      → map read (set (set rows k old) j new)
      ≡ placed deadline t (record { become = record { number = k; row = a } ∷ []; new = b ∷ [] }) (map read rows)
  store_become_new j k old new a b h l e f g q =
      let n : placed_from deadline t [] (b ∷ []) 0 (map read rows) ≡ set (map read rows) j (some b) =
      new_from deadline t [] b 0 (map read rows) (rw (← e, length-map rows read) f)
      ∙ rw (← e) (ap (λ (z : List (Option _)). set z j (some b)) store_none) in
      rw (map_set read (set rows k old) j new, map_set read rows k old, g, q)
      (sym (placed_become deadline t a [] (b ∷ []) k (map read rows) (rw (length-map rows read) h) (rw (read_at read rows k d none h) l)
      ∙ ap (λ (z : List (Option _)). set z k (some a)) n
      ∙ set_comm (map read rows) j k (some b) (some a) (apart j k l e f)))
