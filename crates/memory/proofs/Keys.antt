-- No two live rows of a table have the same key.
use Prim.Native.Nat.{ℕ, zero, suc, ◌≤◌, ◌<◌}
use mathlib.Core.Path.{◌≡◌, refl, sym, ◌∙◌}
use mathlib.Core.Bool.{Bool, true, false, cond}
use mathlib.Core.List.{List, [], ◌∷◌, ◌++◌}
use mathlib.Core.Option.{Option, some, none}
use native.Mathlib.Omega.{arith}
use native.Mathlib.Nat.{le_refl}
use lib.Dec.{eqb}
use lib.ListN.{replicate}
use borrow.Author.Tests.{eq-eqb, ne_eqb}
use Rattle.plain.specs.Lists.{same, first_of}
use Rattle.plain.specs.Given.{Instance, Route}
use Rattle.plain.specs.Answers.{at_number, of_kind}
use Rattle.plain.specs.Table.{Numbered, Change, put, lasts, becomes, live, live_from, placed_from, placed}
use Rattle.lemmas.proofs.Choice.{cond_case, true_false, and_both}
use Rattle.lemmas.proofs.Rules.{lasts_before}
use Rattle.lemmas.specs.Each.{Each}
use Rattle.lemmas.proofs.Each.{Pairs, Found, each_weaken, each_append, first_found}
use Rattle.memory.proofs.OfKind.{each_kind, kind_each}
use Rattle.memory.proofs.Tables.{Rows, rows_weaken, rows_tail, kept, placed_rest, placed_live, placed_dead, Becomes, placed_rows}

-- ---- Keys

-- what kind of row it is, a number and addresses
pub record Key : Type 0 where
  pub kind : ℕ
  pub number : ℕ
  pub one : List ℕ
  pub other : List ℕ

abbrev pub instance_key : Instance → Key
instance_key (Instance.request r) = record { kind = 0; number = r.instance; one = r.dodagid; other = [] }
instance_key (Instance.reply r) = record { kind = 1; number = r.instance; one = r.dodagid; other = [] }

abbrev pub route_key : Route → Key
route_key r = record { kind = 2; number = r.instance; one = r.source; other = r.destination }

pub key_path : (kind : ℕ) (n m : ℕ) (xs ys us vs : List ℕ) → n ≡ m → xs ≡ ys → us ≡ vs
    → ◌≡◌ {A = Key} (record { kind = kind; number = n; one = xs; other = us }) (record { kind = kind; number = m; one = ys; other = vs })
key_path kind n m xs ys us vs e f g = λ i. record { kind = kind; number = e i; one = f i; other = g i }

-- the test of two lists of numbers
same_self : (xs : List ℕ) → same xs xs ≡ true
unfolding same
same_self [] = refl
same_self (x ∷ xs) = and_both (eqb x x) (same xs xs) (eq-eqb x x refl) (same_self xs)

pub eq_same : (xs ys : List ℕ) → xs ≡ ys → same xs ys ≡ true
eq_same xs ys e = rw e (same_self ys)

-- ---- Tables

module _ {A : Type 0} (deadline : A → Option ℕ) (key : A → Key) where
  -- a live row has another key
  abbrev pub Other : ℕ → Key → A → Type 0
  Other t k r = lasts t (deadline r) ≡ true → key r ≡ k → ⊥

  -- no two live rows have the same key
  abbrev pub Distinct : ℕ → List (Option A) → Type 0
  Distinct t [] = Unit {0}
  Distinct t (none ∷ rows) = Distinct t rows
  Distinct t (some r ∷ rows) = (lasts t (deadline r) ≡ true → Rows (Other t (key r)) rows) × Distinct t rows

  -- no row changes its key
  abbrev pub KeysKept : List (Numbered A) → ℕ → List (Option A) → Type 0
  KeysKept us i [] = Unit {0}
  KeysKept us i (none ∷ rows) = KeysKept us (suc i) rows
  KeysKept us i (some r ∷ rows) = (key (becomes us i r) ≡ key r) × KeysKept us (suc i) rows

  -- the new rows have keys of their own
  abbrev pub New : ℕ → List A → List (Option A) → Type 0
  New t [] rows = Unit {0}
  New t (n ∷ ns) rows = Rows (Other t (key n)) rows × Each (λ (m : A). key m ≡ key n → ⊥) ns × New t ns rows

  pub unused_distinct : (t n : ℕ) → Distinct t (replicate n none)
  unused_distinct t zero = tt
  unused_distinct t (suc n) = unused_distinct t n

  pub distinct_later : (t u : ℕ) (rows : List (Option A)) → t ≤ u → Distinct t rows → Distinct u rows
  distinct_later t u [] h d = tt
  distinct_later t u (none ∷ rows) h d = distinct_later t u rows h d
  distinct_later t u (some r ∷ rows) h d = (
    λ e. rows_weaken (Other t (key r)) (Other u (key r)) (λ q f l. f (lasts_before t u (deadline q) h l)) rows
        (d.0 (lasts_before t u (deadline r) h e)),
    distinct_later t u rows h d.1,
  )

  -- ---- Placing

  other_becomes : (t : ℕ) (k : Key) (us : List (Numbered A)) (i : ℕ) (rows : List (Option A)) → KeysKept us i rows → Rows (Other t k) rows
      → Becomes deadline (Other t k) t us i rows
  other_becomes t k us i [] q h = tt
  other_becomes t k us i (none ∷ rows) q h = other_becomes t k us (suc i) rows q h
  other_becomes t k us i (some r ∷ rows) q h = (λ e l z. h.0 e (sym q.0 ∙ z), other_becomes t k us (suc i) rows q.1 h.1)

  -- a key that no live row has, and no new one
  free_placed : (t : ℕ) (k : Key) (us : List (Numbered A)) (ns : List A) (i : ℕ) (rows : List (Option A)) → KeysKept us i rows
      → Rows (Other t k) rows → Each (λ (n : A). key n ≡ k → ⊥) ns → Rows (Other t k) (placed_from deadline t us ns i rows)
  free_placed t k us ns i rows q h w =
      placed_rows deadline (Other t k) t us ns i rows h (other_becomes t k us i rows q h)
      (each_weaken (λ (n : A). key n ≡ k → ⊥) (Other t k) (λ n f l. f) ns w)

  kept_tail : (us : List (Numbered A)) (i : ℕ) (r : Option A) (rows : List (Option A)) → KeysKept us i (r ∷ rows) → KeysKept us (suc i) rows
  kept_tail us i none rows q = q
  kept_tail us i (some r) rows q = q.1

  distinct_tail : (t : ℕ) (r : Option A) (rows : List (Option A)) → Distinct t (r ∷ rows) → Distinct t rows
  distinct_tail t none rows d = d
  distinct_tail t (some r) rows d = d.1

  new_tail : (t : ℕ) (ns : List A) (r : Option A) (rows : List (Option A)) → New t ns (r ∷ rows) → New t ns rows
  new_tail t [] r rows h = tt
  new_tail t (n ∷ ns) r rows h = (rows_tail (Other t (key n)) r rows h.0, h.1, new_tail t ns r rows h.2)

  -- the new rows have other keys than a live row
  new_other : (t : ℕ) (ns : List A) (r : A) (rows : List (Option A)) → lasts t (deadline r) ≡ true → New t ns (some r ∷ rows)
      → Each (λ (n : A). key n ≡ key r → ⊥) ns
  new_other t [] r rows e h = tt
  new_other t (n ∷ ns) r rows e h = (λ z. h.0.0 e (sym z), new_other t ns r rows e h.2)

  distinct_kept : (t : ℕ) (us : List (Numbered A)) (ns : List A) (i : ℕ) (r : Option A) (rows : List (Option A)) → KeysKept us i (r ∷ rows)
      → Distinct t (r ∷ rows) → New t ns (r ∷ rows) → Distinct t (placed_from deadline t us ns (suc i) rows)
      → Distinct t (kept deadline t us i r ∷ placed_from deadline t us ns (suc i) rows)
  distinct_kept t us ns i none rows q d w h = h
  distinct_kept t us ns i (some r) rows q d w h = (go (lasts t (deadline r)) refl, h)
    where
      go : (b : Bool) → lasts t (deadline r) ≡ b → lasts t (deadline (cond b (becomes us i r) r)) ≡ true
          → Rows (Other t (key (cond b (becomes us i r) r))) (placed_from deadline t us ns (suc i) rows)
      go true e l = rw q.0 (free_placed t (key r) us ns (suc i) rows q.1 (d.0 e) (new_other t ns r rows e w))
      go false e l = true_false (sym l ∙ e)

  distinct_placed : (t : ℕ) (us : List (Numbered A)) (ns : List A) (i : ℕ) (rows : List (Option A)) → KeysKept us i rows → Distinct t rows
      → New t ns rows
      → Distinct t (placed_from deadline t us ns i rows)
  unfolding placed_from
  distinct_placed t us ns i [] q d w = tt
  distinct_placed t us [] i (r ∷ rows) q d w =
      rw (placed_rest deadline t us i r rows)
      (distinct_kept t us [] i r rows q d w (distinct_placed t us [] (suc i) rows (kept_tail us i r rows q) (distinct_tail t r rows d) tt))
  distinct_placed t us (n ∷ ns) i (r ∷ rows) q d w =
      go (live deadline t r) refl
      (distinct_placed t us (n ∷ ns) (suc i) rows (kept_tail us i r rows q) (distinct_tail t r rows d) (new_tail t (n ∷ ns) r rows w))
      (distinct_placed t us ns (suc i) rows (kept_tail us i r rows q) (distinct_tail t r rows d) (new_tail t ns r rows w.2))
    where
      go : (b : Bool) → live deadline t r ≡ b → Distinct t (placed_from deadline t us (n ∷ ns) (suc i) rows)
          → Distinct t (placed_from deadline t us ns (suc i) rows)
          → Distinct t (placed_from deadline t us (n ∷ ns) i (r ∷ rows))
      go true e h k = rw (placed_live deadline t us (n ∷ ns) i r rows e) (distinct_kept t us (n ∷ ns) i r rows q d w h)
      go false e h k =
          rw (placed_dead deadline t us n ns i r rows e)
          (λ l. free_placed t (key n) us ns (suc i) rows (kept_tail us i r rows q) (rows_tail (Other t (key n)) r rows w.0) w.1, k)

  -- one more new row
  pub new_more : (t : ℕ) (ns : List A) (q : A) (rows : List (Option A)) → New t ns rows → Each (λ (n : A). key q ≡ key n → ⊥) ns
      → Rows (Other t (key q)) rows → New t (ns ++ (q ∷ [])) rows
  new_more t [] q rows h w g = (g, tt, tt)
  new_more t (n ∷ ns) q rows h w g =
      (h.0, each_append (λ (m : A). key m ≡ key n → ⊥) ns (q ∷ []) h.1 (w.0, tt), new_more t ns q rows h.2 w.1 g)

  -- what a change must keep to
  abbrev pub Keyed : ℕ → Change A → List (Option A) → Type 0
  Keyed t change rows = KeysKept change.become 0 rows × New t change.new rows

  pub keyed_placed : (clock t : ℕ) (change : Change A) (rows : List (Option A)) → clock ≤ t → Keyed t change rows → Distinct clock rows
      → Distinct t (placed deadline t change rows)
  keyed_placed clock t change rows h w d =
      distinct_placed t change.become change.new 0 rows w.0 (distinct_later clock t rows h d) w.1

  -- ---- A row in the place of one that is seen

  pub none_kept : (i : ℕ) (rows : List (Option A)) → KeysKept [] i rows
  unfolding becomes
  none_kept i [] = tt
  none_kept i (none ∷ rows) = none_kept (suc i) rows
  none_kept i (some r ∷ rows) = (refl, none_kept (suc i) rows)

  -- a row before those of the table
  before_kept : (j i : ℕ) (q : A) (rows : List (Option A)) → j < i → KeysKept (record { number = j; row = q } ∷ []) i rows
  unfolding becomes
  before_kept j i q [] h = tt
  before_kept j i q (none ∷ rows) h = before_kept j (suc i) q rows (omega arith)
  before_kept j i q (some r ∷ rows) h = (rw (ne_eqb j i (λ e. omega arith)), before_kept j (suc i) q rows (omega arith))

  -- a row may be put in the place of one that is seen and has its key
  abbrev Place : ℕ → List (Option A) → Numbered A → Type 0
  Place i rows n = (i ≤ n.number) × ((q : A) → key q ≡ key n.row → KeysKept (record { number = n.number; row = q } ∷ []) i rows)

  places : (clock i : ℕ) (rows : List (Option A)) → Each (Place i rows) (live_from deadline clock i rows)
  unfolding live_from becomes
  places clock i [] = tt
  places clock i (none ∷ rows) =
      each_weaken (Place (suc i) rows) (Place i (none ∷ rows)) (λ n h. (omega (arith, h.0), h.1)) (live_from deadline clock (suc i) rows)
      (places clock (suc i) rows)
  places clock i (some r ∷ rows) =
      cond_case (Each (Place i (some r ∷ rows))) (lasts clock (deadline r)) (record { number = i; row = r } ∷ live_from deadline clock (suc i) rows)
      (live_from deadline clock (suc i) rows)
      (λ e. ((le_refl i, λ q z. (rw (eq-eqb i i refl) z, before_kept i (suc i) q rows (omega arith))), further (places clock (suc i) rows)))
      (λ e. further (places clock (suc i) rows))
    where
      further : Each (Place (suc i) rows) (live_from deadline clock (suc i) rows) → Each (Place i (some r ∷ rows)) (live_from deadline clock (suc i) rows)
      further =
          each_weaken (Place (suc i) rows) (Place i (some r ∷ rows))
          (λ n h. (omega (arith, h.0), λ q z. (rw (ne_eqb n.number i (λ e. omega (arith, h.0))) refl, h.1 q z)))
          (live_from deadline clock (suc i) rows)

  -- a key that no row has of those that are seen
  free_seen : (clock t i : ℕ) (k : Key) (rows : List (Option A)) → clock ≤ t
      → Each (λ (n : Numbered A). Other t k n.row) (live_from deadline clock i rows) → Rows (Other t k) rows
  unfolding live_from
  free_seen clock t i k [] h g = tt
  free_seen clock t i k (none ∷ rows) h g = free_seen clock t (suc i) k rows h g
  free_seen clock t i k (some r ∷ rows) h g = go (lasts clock (deadline r)) refl g (free_seen clock t (suc i) k rows h)
    where
      go : (b : Bool) → lasts clock (deadline r) ≡ b
          → Each (λ (n : Numbered A). Other t k n.row)
          (cond b (record { number = i; row = r } ∷ live_from deadline clock (suc i) rows) (live_from deadline clock (suc i) rows))
          → (Each (λ (n : Numbered A). Other t k n.row) (live_from deadline clock (suc i) rows) → Rows (Other t k) rows)
          → Other t k r × Rows (Other t k) rows
      go true e g f = (g.0, f g.1)
      go false e g f = (λ l. true_false (sym (lasts_before clock t (deadline r) h l) ∙ e), f g)

  -- Of the rows of a kind that are seen one is looked for by a test that tells its key.
  module _ {B : Type 0} (kind : A → Option B) (test : Numbered B → Bool) (q : A) where
    pub record Tells (t : ℕ) : Type 0 where
      pub hit : (i : ℕ) (r : A) → Each (λ (n : Numbered B). (n.number ≡ i) × (test n ≡ true → key q ≡ key r)) (at_number i (kind r))
      pub miss : (i : ℕ) (r : A) → Each (λ (n : Numbered B). test n ≡ false) (at_number i (kind r)) → Other t (key q) r

    -- none is found: no live row has its key
    pub free_found : (clock t : ℕ) (rows : List (Option A)) → Tells t → clock ≤ t
        → Each (λ (n : Numbered B). test n ≡ false) (of_kind kind (live_from deadline clock 0 rows)) → Rows (Other t (key q)) rows
    free_found clock t rows w h g =
        free_seen clock t 0 (key q) rows h
        (each_weaken (λ (n : Numbered A). Each (λ (m : Numbered B). test m ≡ false) (at_number n.number (kind n.row)))
        (λ (n : Numbered A). Other t (key q) n.row)
        (λ n k. w.miss n.number n.row k) (live_from deadline clock 0 rows)
        (kind_each kind (λ (m : Numbered B). test m ≡ false) (live_from deadline clock 0 rows) g))

    -- in the place of the one found, else new
    pub put_keyed : (clock t : ℕ) (rows : List (Option A)) → Tells t → clock ≤ t
        → Keyed t (put (first_of test (of_kind kind (live_from deadline clock 0 rows))) q) rows
    put_keyed clock t rows w h =
        go (first_of test (of_kind kind (live_from deadline clock 0 rows)))
        (first_found Fits test (of_kind kind (live_from deadline clock 0 rows))
        (each_kind kind (Place 0 rows) Fits (λ n k. fits n.number n.row k.1 (at_number n.number (kind n.row)) (w.hit n.number n.row))
        (live_from deadline clock 0 rows) (places clock 0 rows)))
      where
        Fits : Numbered B → Type 0
        Fits n = test n ≡ true → KeysKept (record { number = n.number; row = q } ∷ []) 0 rows

        fits : (i : ℕ) (r : A) → ((p : A) → key p ≡ key r → KeysKept (record { number = i; row = p } ∷ []) 0 rows) → (ms : List (Numbered B))
            → Each (λ (m : Numbered B). (m.number ≡ i) × (test m ≡ true → key q ≡ key r)) ms → Each Fits ms
        fits i r f [] k = tt
        fits i r f (m ∷ ms) k = (λ e. rw k.0.0 (f q (k.0.1 e)), fits i r f ms k.1)

        go : (o : Option (Numbered B)) → Found Fits test (of_kind kind (live_from deadline clock 0 rows)) o → Keyed t (put o q) rows
        go none k = (none_kept 0 rows, (free_found clock t rows w h k, tt, tt))
        go (some n) k = (k.0 k.1, tt)

  -- ---- What is seen

  free_live : (t i : ℕ) (k : Key) (rows : List (Option A)) → Rows (Other t k) rows
      → Each (λ (n : Numbered A). key n.row ≡ k → ⊥) (live_from deadline t i rows)
  unfolding live_from
  free_live t i k [] h = tt
  free_live t i k (none ∷ rows) h = free_live t (suc i) k rows h
  free_live t i k (some r ∷ rows) h =
      cond_case (Each (λ (n : Numbered A). key n.row ≡ k → ⊥)) (lasts t (deadline r))
      (record { number = i; row = r } ∷ live_from deadline t (suc i) rows)
      (live_from deadline t (suc i) rows) (λ e. (h.0 e, free_live t (suc i) k rows h.1)) (λ e. free_live t (suc i) k rows h.1)

  pub distinct_live : (t i : ℕ) (rows : List (Option A)) → Distinct t rows
      → Pairs (λ (n m : Numbered A). key m.row ≡ key n.row → ⊥) (live_from deadline t i rows)
  unfolding live_from
  distinct_live t i [] d = tt
  distinct_live t i (none ∷ rows) d = distinct_live t (suc i) rows d
  distinct_live t i (some r ∷ rows) d =
      cond_case (Pairs (λ (n m : Numbered A). key m.row ≡ key n.row → ⊥)) (lasts t (deadline r))
      (record { number = i; row = r } ∷ live_from deadline t (suc i) rows) (live_from deadline t (suc i) rows)
      (λ e. (free_live t (suc i) (key r) rows (d.0 e), distinct_live t (suc i) rows d.1)) (λ e. distinct_live t (suc i) rows d.1)
