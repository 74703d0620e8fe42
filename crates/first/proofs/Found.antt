-- A search over all rows of a table finds what the rules find among the live rows of a kind.
--     found, missing      the first live row of a kind that is so, and that there is none
--     any_found           whether there is one
-- and the same of the records of a table: sort_found, sort_missing, sort_any.
use Prim.Native.Nat.{ℕ, zero, suc, ◌+◌, ◌<◌, ◌≤◌}
use mathlib.Core.Path.{◌≡◌, refl, sym, ◌∙◌}
use mathlib.Core.Bool.{Bool, true, false, cond}
use mathlib.Core.List.{List, [], ◌∷◌, ◌++◌, map}
use mathlib.Core.Option.{Option, some, none}
use native.Mathlib.Omega.{arith}
use lib.Dec.{ltb, leb-suc-suc}
use lib.ListN.{length, get_or, length-map}
use borrow.Author.Tests.{lt-ltb}
use Rattle.plain.specs.Lists.{any, first_of}
use Rattle.plain.specs.Table.{Numbered, lasts, live, live_from, live_rows}
use Rattle.plain.specs.Answers.{at_number, of_kind}
use Rattle.lemmas.proofs.Choice.{true_false, cond_true}
use Rattle.lemmas.proofs.Rules.{lasts_before}
use Rattle.keyed.specs.Look.{of_row, held, here}
use Rattle.keyed.proofs.Laws.{Sort, sort_here}
use Rattle.first.specs.First.{first}

-- ---- the first of a kind that is so

-- a row that is passed adds one to the number
renumber : {B : Type 0} (m n : ℕ) (b : B) → m ≡ n → ◌≡◌ {A = Option (Numbered B)} (some (record { number = m; row = b }))
    (some (record { number = n; row = b }))
renumber m n b e = λ i. some (record { number = e i; row = b })

module _ {A B : Type 0} (deadline : A → Option ℕ) (part : A → Option B) where
  -- what the rules see of a row at the clock c: the part of the kind, if the row is live
  abbrev pub seen : ℕ → Option A → Option B
  seen c o = cond (live deadline c o) (of_row part o) none

  pub kind_cons : (c i : ℕ) (o : Option A) (rows : List (Option A))
      → of_kind part (live_from deadline c i (o ∷ rows)) ≡ at_number i (seen c o) ++ of_kind part (live_from deadline c (suc i) rows)
  unfolding live_from of_kind
  kind_cons c i none rows = refl
  kind_cons c i (some a) rows = go (lasts c (deadline a))
    where
      go : (y : Bool)
          → of_kind part (cond y (record { number = i; row = a } ∷ live_from deadline c (suc i) rows) (live_from deadline c (suc i) rows))
          ≡ at_number i (cond y (part a) none) ++ of_kind part (live_from deadline c (suc i) rows)
      go true = refl
      go false = refl

  pub seen_part : (c : ℕ) (o : Option A) (b : B) → seen c o ≡ some b → of_row part o ≡ some b
  seen_part c o b = go (live deadline c o)
    where
      go : (y : Bool) → cond y (of_row part o) none ≡ some b → of_row part o ≡ some b
      go true e = e
      go false e = let z : ◌≡◌ {A = ℕ} 0 1 = cc in absurd (omega arith)

  -- a test that only rows pass that are live at the clock
  module _ (p : B → Bool) (c : ℕ) (keeps : (a : A) (b : B) → part a ≡ some b → p b ≡ true → lasts c (deadline a) ≡ true) where
    pub seen_here : (o : Option A) → held p (seen c o) ≡ here part p o
    unfolding here
    seen_here none = refl
    seen_here (some a) = go (part a) refl (lasts c (deadline a)) refl
      where
        go : (x : Option B) → part a ≡ x → (y : Bool) → lasts c (deadline a) ≡ y → held p (cond y x none) ≡ held p x
        go none e true f = refl
        go none e false f = refl
        go (some b) e true f = refl
        go (some b) e false f = miss (p b) refl
          where
            miss : (z : Bool) → p b ≡ z → false ≡ z
            miss true g = true_false (sym (keeps a b e g) ∙ f)
            miss false g = refl

    found_from : (i : ℕ) (rows : List (Option A)) (b : B) → first (here part p) rows < length rows
        → of_row part (get_or rows (first (here part p) rows) none) ≡ some b
        → first_of (λ (n : Numbered B). p n.row) (of_kind part (live_from deadline c i rows)) ≡ some
        (record { number = i + first (here part p) rows; row = b })
    unfolding first first_of
    found_from i [] b h e = absurd (omega arith)
    found_from i (o ∷ rows) b h e = rw (kind_cons c i o rows) (go (seen c o) refl (here part p o) refl (λ k g. found_from (suc i) rows b k g) h e)
      where
        go : (x : Option B) → seen c o ≡ x → (y : Bool) → here part p o ≡ y
            → (first (here part p) rows < length rows → of_row part (get_or rows (first (here part p) rows) none) ≡ some b
            → first_of (λ (n : Numbered B). p n.row) (of_kind part (live_from deadline c (suc i) rows)) ≡ some
            (record { number = suc i + first (here part p) rows; row = b }))
            → cond y 0 (suc (first (here part p) rows)) < suc (length rows)
            → of_row part (get_or (o ∷ rows) (cond y 0 (suc (first (here part p) rows))) none) ≡ some b
            → first_of (λ (n : Numbered B). p n.row) (at_number i x ++ of_kind part (live_from deadline c (suc i) rows))
            ≡ some (record { number = i + cond y 0 (suc (first (here part p) rows)); row = b })
        go none q true w r h e =
            let z : held p (seen c o) ≡ false = rw q in
            true_false (sym w ∙ sym (seen_here o) ∙ z)
        go none q false w r h e =
            r (omega arith) e ∙ renumber (suc i + first (here part p) rows) (i + suc (first (here part p) rows)) b (omega arith)
        go (some a) q true w r h e =
            let f : p a ≡ true = rw q at (seen_here o ∙ w) in
            let g : a ≡ b = cc (seen_part c o a q) in
            rw (f, g) (renumber i (i + 0) b (omega arith))
        go (some a) q false w r h e =
            let f : p a ≡ false = rw q at (seen_here o ∙ w) in
            rw f (r (omega arith) e ∙ renumber (suc i + first (here part p) rows) (i + suc (first (here part p) rows)) b (omega arith))

    pub found : (rows : List (Option A)) (k : ℕ) (b : B) → k ≡ first (here part p) rows → k < length rows → of_row part (get_or rows k none) ≡ some b
        → first_of (λ (n : Numbered B). p n.row) (of_kind part (live_rows deadline c rows)) ≡ some (record { number = k; row = b })
    found rows k b e h g = rw e (found_from 0 rows b (rw (← e) h) (rw (← e) g) ∙ renumber (0 + first (here part p) rows) (first (here part p) rows) b
        (omega arith))

    missing_from : (i : ℕ) (rows : List (Option A)) → length rows ≤ first (here part p) rows
        → first_of (λ (n : Numbered B). p n.row) (of_kind part (live_from deadline c i rows)) ≡ none
    unfolding first first_of live_from of_kind
    missing_from i [] h = refl
    missing_from i (o ∷ rows) h = rw (kind_cons c i o rows) (go (seen c o) refl (here part p o) refl (missing_from (suc i) rows) h)
      where
        go : (x : Option B) → seen c o ≡ x → (y : Bool) → here part p o ≡ y
            → (length rows ≤ first (here part p) rows → first_of (λ (n : Numbered B). p n.row) (of_kind part (live_from deadline c (suc i) rows))
            ≡ none)
            → suc (length rows) ≤ cond y 0 (suc (first (here part p) rows))
            → first_of (λ (n : Numbered B). p n.row) (at_number i x ++ of_kind part (live_from deadline c (suc i) rows)) ≡ none
        go x q true w r h = absurd (omega arith)
        go none q false w r h = r (omega arith)
        go (some a) q false w r h =
            let f : p a ≡ false = rw q at (seen_here o ∙ w) in
            rw f (r (omega arith))

    pub missing : (rows : List (Option A)) (k : ℕ) → k ≡ first (here part p) rows → length rows ≤ k
        → first_of (λ (n : Numbered B). p n.row) (of_kind part (live_rows deadline c rows)) ≡ none
    missing rows k e h = missing_from 0 rows (rw (← e) h)

    any_from : (i : ℕ) (rows : List (Option A))
        → any (λ (n : Numbered B). p n.row) (of_kind part (live_from deadline c i rows)) ≡ ltb (first (here part p) rows) (length rows)
    unfolding first any live_from of_kind
    any_from i [] = refl
    any_from i (o ∷ rows) = rw (kind_cons c i o rows) (go (seen c o) refl (here part p o) refl (any_from (suc i) rows))
      where
        go : (x : Option B) → seen c o ≡ x → (y : Bool) → here part p o ≡ y
            → any (λ (n : Numbered B). p n.row) (of_kind part (live_from deadline c (suc i) rows)) ≡ ltb (first (here part p) rows) (length rows)
            → any (λ (n : Numbered B). p n.row) (at_number i x ++ of_kind part (live_from deadline c (suc i) rows))
            ≡ ltb (cond y 0 (suc (first (here part p) rows))) (suc (length rows))
        go none q true w r =
            let z : held p (seen c o) ≡ false = rw q in
            true_false (sym w ∙ sym (seen_here o) ∙ z)
        go none q false w r = r ∙ sym (leb-suc-suc (suc (first (here part p) rows)) (length rows))
        go (some a) q true w r =
            let f : p a ≡ true = rw q at (seen_here o ∙ w) in
            rw f (sym (lt-ltb 0 (suc (length rows)) (omega arith)))
        go (some a) q false w r =
            let f : p a ≡ false = rw q at (seen_here o ∙ w) in
            rw f (r ∙ sym (leb-suc-suc (suc (first (here part p) rows)) (length rows)))

    pub any_found : (rows : List (Option A))
        → any (λ (n : Numbered B). p n.row) (of_kind part (live_rows deadline c rows)) ≡ ltb (first (here part p) rows) (length rows)
    any_found rows = any_from 0 rows

-- ---- the row that was found

pub first_true : {A : Type 0} (p : A → Bool) (xs : List A) (d : A) → first p xs < length xs → p (get_or xs (first p xs) d) ≡ true
unfolding first
first_true p [] d h = absurd (omega arith)
first_true p (x ∷ xs) d h = go (p x) refl (first_true p xs d) h
  where
    go : (y : Bool) → p x ≡ y → (first p xs < length xs → p (get_or xs (first p xs) d) ≡ true) → cond y 0 (suc (first p xs)) < suc (length xs)
        → p (get_or (x ∷ xs) (cond y 0 (suc (first p xs))) d) ≡ true
    go true e r h = e
    go false e r h = r (omega arith)

-- the meaning of the record at k
pub read_at : {R A : Type 0} (read : R → A) (rows : List R) (k : ℕ) (d : R) (z : A) → k < length rows → get_or (map read rows) k z ≡ read
    (get_or rows k d)
read_at read [] k d z h = absurd (omega arith)
read_at read (r ∷ rows) zero d z h = refl
read_at read (r ∷ rows) (suc k) d z h = read_at read rows k d z (omega arith)

-- the record at the number that a search answers passes the test
pub found_true : {R A : Type 0} (read : R → A) (p : A → Bool) (rows : List R) (k : ℕ) (d : R) → k ≡ first p (map read rows) → k < length rows
    → p (read (get_or rows k d)) ≡ true
found_true read p rows k d e h =
    let z = read d in
    let l : first p (map read rows) < length (map read rows) = rw (← e, length-map rows read) h in
    let f : p (get_or (map read rows) k z) ≡ true = rw (← e) at (first_true p (map read rows) z l) in
    rw (read_at read rows k d z h) at f

-- ---- the three kinds of rows

-- a row of a kind that is so, and what is so is live at t
module _ (S : Sort) (p : S.Row → Bool) (t : ℕ) (lives : (b : S.Row) → p b ≡ true → lasts t (S.ends b) ≡ true) where
  keeps : (c : ℕ) → c ≤ t → (a : S.Meaning) (b : S.Row) → S.part a ≡ some b → p b ≡ true → lasts c (S.deadline a) ≡ true
  keeps c h a b e f = rw (S.ended a b e) (lasts_before c t (S.ends b) h (lives b f))

  part_live : (o : Option S.Meaning) (b : S.Row) → of_row S.part o ≡ some b → p b ≡ true → live S.deadline t o ≡ true
  part_live none b e f = let z : ◌≡◌ {A = ℕ} 0 1 = cc in absurd (omega arith)
  part_live (some a) b e f = keeps t (omega arith) a b e f

  -- k is what a search of the records answers
  module _ (rows : List S.Record) (k : ℕ) (e : k ≡ first (here S.part p) (map S.read rows)) where
    module _ (h : k < length rows) where
      -- the record that was found is of the kind, and so
      pub sort_is : (S.is (get_or rows k S.blank) ≡ true) × (p (S.row (get_or rows k S.blank)) ≡ true)
      sort_is =
          cond_true (S.is (get_or rows k S.blank)) (p (S.row (get_or rows k S.blank)))
          (sym (sort_here S p (get_or rows k S.blank)) ∙ found_true S.read (here S.part p) rows k S.blank e h)

      sort_part : of_row S.part (S.read (get_or rows k S.blank)) ≡ some (S.row (get_or rows k S.blank))
      sort_part = S.parted (get_or rows k S.blank) ∙ rw sort_is.0

      pub sort_live : live S.deadline t (S.read (get_or rows k S.blank)) ≡ true
      sort_live = part_live (S.read (get_or rows k S.blank)) (S.row (get_or rows k S.blank)) sort_part sort_is.1

      -- the rules find it among what is live at the clock
      pub sort_found : (clock : ℕ) → clock ≤ t → first_of (λ (n : Numbered S.Row). p n.row)
          (of_kind S.part (live_rows S.deadline clock (map S.read rows))) ≡ some (record { number = k; row = S.row (get_or rows k S.blank) })
      sort_found clock later =
          found S.deadline S.part p clock (keeps clock later) (map S.read rows) k (S.row (get_or rows k S.blank)) e
          (rw (length-map rows S.read) h) (rw (read_at S.read rows k S.blank none h) sort_part)

    pub sort_missing : length rows ≤ k → (clock : ℕ) → clock ≤ t → first_of (λ (n : Numbered S.Row). p n.row)
        (of_kind S.part (live_rows S.deadline clock (map S.read rows))) ≡ none
    sort_missing h clock later =
        missing S.deadline S.part p clock (keeps clock later) (map S.read rows) k e (rw (length-map rows S.read) h)

    pub sort_any : (clock : ℕ) → clock ≤ t → any (λ (n : Numbered S.Row). p n.row)
        (of_kind S.part (live_rows S.deadline clock (map S.read rows))) ≡ ltb k (length rows)
    sort_any clock later =
        any_found S.deadline S.part p clock (keeps clock later) (map S.read rows) ∙ rw (← e, length-map rows S.read)
