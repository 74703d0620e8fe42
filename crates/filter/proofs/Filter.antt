-- The soundness of the filter: where it has no mark for a row's hash, no earlier row that was marked has the row's key.
use Prim.Native.Nat.{ℕ, ◌+◌, ◌<◌, ◌≤◌}
use mathlib.Core.Path.{◌≡◌, refl, sym, ◌∙◌}
use mathlib.Core.Bool.{Bool, true, false, cond, ◌||◌}
use mathlib.Core.List.{List, [], ◌∷◌}
use mathlib.Core.Logic.{⊎_elim}
use native.Mathlib.Omega.{arith}
use native.Mathlib.Nat.{eq-or-lt_of_le}
use lib.Dec.{eqb}
use lib.Bits.{bit_or}
use lib.ListN.{length, get_or, set, take, length-take, length-set}
use lib.Seq.{get_or-set_same, get_or-set_other, get_or-take}
use borrow.Author.Tests.{eqb-true, eqb-false, eq-eqb}
use Rattle.std.specs.List.{range_with_len}
use Rattle.std.proofs.lemmas.List.{get_or_default}
use Rattle.std.proofs.lemmas.List.FromFn.{length-range_with_len, get_or-range_with_len}
use Rattle.plain.specs.Lists.{any, any_two}
use Rattle.lemmas.proofs.Choice.{true_false, cond_true, or_left, or_right, or_neither}
use Rattle.filter.specs.Filter.{bits_of, has_bits, maybe_of, marked_of, in_class}
use Rattle.slot.specs.Slot.{class_of, chosen_of}
use Rattle.slot.proofs.Laws.{class_le}
use Rattle.key.specs.Pair.{twins_by}
use Rattle.key.proofs.Plain.{twins_are}
use Rattle.key.proofs.Any.{not_so, so, any_false, any_not, two_start, two_hit, two_more, two_less}
use Rattle.filter.proofs.Words.{or_has, or_keeps}

-- ---- words

marks : (w h : ℕ) → has_bits (marked_of true w h) h ≡ true
unfolding has_bits marked_of
marks w h = eq-eqb _ _ (or_has w (bits_of h))

stays : (on : Bool) (w h g : ℕ) → has_bits w g ≡ true → has_bits (marked_of on w h) g ≡ true
unfolding has_bits marked_of
stays true w h g e = eq-eqb _ _ (or_keeps w (bits_of g) (bits_of h) (eqb-true (bit_or w (bits_of g)) w e))
stays false w h g e = e

-- the words have the mark of a hash, of which `slot` tells the word
abbrev pub has : (ℕ → ℕ) → List ℕ → ℕ → Bool
has slot ws h = has_bits (get_or ws (slot h) 0) h

-- what was asked only where the filter said maybe
pub asked : (m b e : Bool) → m ≡ true → b ≡ e → cond m e false ≡ b
asked m b e h f = rw (h, f)

pub unasked : (m e : Bool) → m ≡ false → cond m e false ≡ false
unasked m e h = rw h

-- ---- one pass over the rows of a table

-- Rows of a table at one time: of a hash is asked only that rows of one key have one.
pub record Table : Type 1 where
  pub Row : Type 0
  pub hash : Row → ℕ
  pub live : Row → Bool
  pub key : Row → Row → Bool
  pub hashed : (a b : Row) → key a b ≡ true → hash a ≡ hash b

-- a table of rows of which a trait (`Keyed` of src/lib.rt) says this
abbrev pub table : {R : Type 0} (key : R → R → Bool) (live : R → Bool) (hash : R → ℕ) → ((a b : R) → key a b ≡ true → hash a ≡ hash b) → Table
table {R} key live hash hashed = record {
  Row = R;
  hash = hash;
  live = live;
  key = key;
  hashed = hashed;
}

abbrev pub twins_of : (T : Table) → T.Row → T.Row → Bool
twins_of T = twins_by T.key T.live

-- twins are both live, and have one hash
joins : (T : Table) (a b : T.Row) → twins_of T a b ≡ true → (T.live a ≡ true) × (T.live b ≡ true) × (T.hash a ≡ T.hash b)
joins T a b e = let q = twins_are T.key T.live a b e in (q.1, q.2, T.hashed a b q.0)

module _ (slot : ℕ → ℕ) (T : Table) (mask p : ℕ) (rows : List T.Row) where
  abbrev pub chosen : T.Row → Bool
  chosen r = chosen_of mask p (T.live r) (T.hash r)

  -- every chosen row before j has its mark
  pub Holds : ℕ → List ℕ → Type 0
  Holds j ws = (k : ℕ) (d : T.Row) → k < j → chosen (get_or rows k d) ≡ true → has slot ws (T.hash (get_or rows k d)) ≡ true

  pub none_held : (ws : List ℕ) → Holds 0 ws
  unfolding Holds
  none_held ws k d l = absurd (omega arith)

  -- row j is r
  module _ (j : ℕ) (r : T.Row) where
    -- it has a twin before it, and one of the pass's class
    abbrev pub earlier_twin : Bool
    earlier_twin = any (λ (a : T.Row). twins_of T a r) (take j rows)

    abbrev pub earlier_in : Bool
    earlier_in = any (λ (a : T.Row). in_class T.hash mask p (twins_of T) a r) (take j rows)

    -- no mark, or a mark and no earlier twin: no earlier twin of the class
    miss : (ws : List ℕ) → Holds j ws → cond (maybe_of (chosen r) (get_or ws (slot (T.hash r)) 0) (T.hash r)) earlier_twin false ≡ false
        → earlier_in ≡ false
    unfolding maybe_of Holds in_class chosen_of
    miss ws holds e =
        any_false (λ (a : T.Row). in_class T.hash mask p (twins_of T) a r) (take j rows) r (λ k l. not_so _ (λ w. twin_not k l w))
      where
        twin_not : (k : ℕ) → k < length (take j rows) → in_class T.hash mask p (twins_of T) (get_or (take j rows) k r) r ≡ true → ⊥
        twin_not k l w =
            let b : k < j = omega (arith, length-take j rows) in
            let row-k : get_or (take j rows) k r ≡ get_or rows k r = get_or-take j rows k r b in
            let q = cond_true (eqb (class_of mask (T.hash r)) p) (twins_of T (get_or (take j rows) k r) r) w in
            let tw : twins_of T (get_or rows k r) r ≡ true = rw row-k at q.1 in
            let s = joins T (get_or rows k r) r tw in
            let c : chosen (get_or rows k r) ≡ true = rw (s.0, s.2, q.0) in
            let m : has slot ws (T.hash r) ≡ true = rw s.2 at (holds k r b c) in
            let f : earlier_twin ≡ false = rw (s.1, q.0, m) at e in
            let g = any_not (λ (a : T.Row). twins_of T a r) (take j rows) r f k l in
            true_false (sym q.1 ∙ g)

    -- a twin was found of a row that is chosen
    hit : (w : ℕ) → cond (maybe_of (chosen r) w (T.hash r)) earlier_twin false ≡ true → earlier_in ≡ true
    unfolding maybe_of in_class chosen_of
    hit w e =
        let q = cond_true _ earlier_twin e in
        let c = cond_true (chosen r) (has_bits w (T.hash r)) q.0 in
        let s = cond_true (T.live r) (eqb (class_of mask (T.hash r)) p) c.0 in
        rw s.1 q.1

    -- its own mark is set, and the others stay
    keep : (ws : List ℕ) → j < length rows → r ≡ get_or rows j r → slot (T.hash r) < length ws → Holds j ws
        → Holds (j + 1) (set ws (slot (T.hash r)) (marked_of (chosen r) (get_or ws (slot (T.hash r)) 0) (T.hash r)))
    unfolding Holds
    keep ws low at room holds k d l c =
        ⊎_elim
        (λ (e : k ≡ j).
        let is : get_or rows k d ≡ r = rw e (get_or_default rows j d r low ∙ sym at) in
        let on : chosen r ≡ true = rw is at c in
        rw (is, get_or-set_same ws _ _ 0 room, on) (marks _ _))
        (λ (m : k < j). go m (eqb (slot (T.hash (get_or rows k d))) (slot (T.hash r))) refl)
        (eq-or-lt_of_le (omega arith))
      where
        go : k < j → (b : Bool) → eqb (slot (T.hash (get_or rows k d))) (slot (T.hash r)) ≡ b
            → has slot (set ws (slot (T.hash r)) (marked_of (chosen r) (get_or ws (slot (T.hash r)) 0) (T.hash r))) (T.hash (get_or rows k d)) ≡ true
        go m true q =
            let e : slot (T.hash (get_or rows k d)) ≡ slot (T.hash r) = eqb-true (slot (T.hash (get_or rows k d))) (slot (T.hash r)) q in
            rw (e, get_or-set_same ws _ _ 0 room) (stays _ _ _ _ (rw e at (holds k d m c)))
        go m false q =
            rw (get_or-set_other ws _ _ _ 0 (eqb-false (slot (T.hash (get_or rows k d))) (slot (T.hash r)) q)) (holds k d m c)

  -- ---- the pass as a loop

  -- at row j: no two of the rows before it are twins of the class, and each of the class has its mark in the words
  abbrev pub Passed : ℕ → ℕ → List ℕ → Type 0
  Passed size j ws =
      (j ≤ length rows) × (length ws ≡ size) × (any_two (in_class T.hash mask p (twins_of T)) (take j rows) ≡ false) × Holds j ws

  pub passed_none : (size : ℕ) (ws : List ℕ) → length ws ≡ size → Passed size 0 ws
  passed_none size ws e = (omega arith, e, two_start (in_class T.hash mask p (twins_of T)) rows, none_held ws)

  -- with a name for each thing that the code computes on the way
  module _ (j h s : ℕ) (v on m : Bool) (ws : List ℕ) (r : T.Row) (low : j < length rows) (at : r ≡ get_or rows j r)
      (hashed : h ≡ T.hash r) (lives : v ≡ T.live r) (chose : on ≡ chosen_of mask p v h) (placed : s ≡ slot h)
      (asks : m ≡ maybe_of on (get_or ws s 0) h) where
    chose_is : on ≡ chosen r
    chose_is = chose ∙ rw (hashed, lives)

    pub passed_hit : (b : Bool) → m ≡ true → b ≡ earlier_twin j r → b ≡ true → any_two (in_class T.hash mask p (twins_of T)) rows ≡ true
    passed_hit b e f g =
        two_hit (in_class T.hash mask p (twins_of T)) rows j r low at
        (hit j r (get_or ws s 0) (rw (← chose_is, ← hashed, ← asks) (asked m b (earlier_twin j r) e f ∙ g)))

    pub passed_more : (size x : ℕ) → Passed size j ws → s < length ws → cond m (earlier_twin j r) false ≡ false → x ≡ marked_of on (get_or ws s 0) h
        → Passed size (j + 1) (set ws s x)
    passed_more size x w room f e = (
      omega arith,
      length-set ws s x ∙ w.1,
      two_more (in_class T.hash mask p (twins_of T)) rows j r low at w.2
          (miss j r ws w.3 (rw (← chose_is, ← hashed, ← placed, ← asks) f)),
      rw (e, chose_is, placed, hashed) (keep j r ws low at (rw (← hashed, ← placed) room) w.3),
    )

-- ---- a pass for each class

module _ {R : Type 0} (hash : R → ℕ) (twins : R → R → Bool) (mask : ℕ) where
  any_class : (x : R) (ys : List R) → ((q : ℕ) → q < mask + 1 → any (in_class hash mask q twins x) ys ≡ false) → any (twins x) ys ≡ false
  unfolding any in_class
  any_class x [] f = refl
  any_class x (y ∷ ys) f =
      let c = class_of mask (hash y) in
      let e : in_class hash mask c twins x y || any (in_class hash mask c twins x) ys ≡ false =
      f c (omega (arith, class_le mask (hash y))) in
      let g : in_class hash mask c twins x y ≡ false = or_left (in_class hash mask c twins x y) (any (in_class hash mask c twins x) ys) e in
      or_neither (twins x y) (any (twins x) ys) (rw (eq-eqb c c refl) at g)
      (any_class x ys (λ q l. or_right (in_class hash mask q twins x y) (any (in_class hash mask q twins x) ys) (f q l)))

  -- every row is of one of the classes
  pub each_class : (rows : List R) → ((q : ℕ) → q < mask + 1 → any_two (in_class hash mask q twins) rows ≡ false) → any_two twins rows ≡ false
  unfolding any_two
  each_class [] f = refl
  each_class (r ∷ rows) f =
      or_neither (any (twins r) rows) (any_two twins rows)
      (any_class r rows (λ q l. or_left (any (in_class hash mask q twins r) rows) (any_two (in_class hash mask q twins) rows) (f q l)))
      (each_class rows (λ q l. or_right (any (in_class hash mask q twins r) rows) (any_two (in_class hash mask q twins) rows) (f q l)))

  pub one_class : (q : ℕ) (rows : List R) → any_two (in_class hash mask q twins) rows ≡ true → any_two twins rows ≡ true
  unfolding in_class
  one_class q rows e =
      so (any_two twins rows) (λ n. true_false (sym e
      ∙ two_less (in_class hash mask q twins) twins (λ a b w. (cond_true (eqb (class_of mask (hash b)) q) (twins a b) w).1) rows n))

  -- what is asked of each class in turn is asked of all rows
  pub each_of_classes : (rows : List R) (b : Bool) → b ≡ any (λ (q : ℕ). any_two (in_class hash mask q twins) rows) (range_with_len 0 (mask + 1))
      → b ≡ any_two twins rows
  each_of_classes rows true e =
      sym (so (any_two twins rows) (λ n. true_false (e
      ∙ any_false (λ (q : ℕ). any_two (in_class hash mask q twins) rows) (range_with_len 0 (mask + 1)) 0
      (λ k l. not_so _ (λ w. true_false (sym (one_class _ rows w) ∙ n))))))
  each_of_classes rows false e =
      sym (each_class rows (λ q l.
      let at_q : get_or (range_with_len 0 (mask + 1)) q 0 ≡ q = get_or-range_with_len 0 (mask + 1) q 0 l ∙ omega arith in
      rw at_q at (any_not (λ (q : ℕ). any_two (in_class hash mask q twins) rows) (range_with_len 0 (mask + 1)) 0 (sym e) q
      (omega (arith, length-range_with_len 0 (mask + 1))))))

-- ---- one class for all

-- every row is of the one class
all_class : {R : Type 0} (hash : R → ℕ) (twins : R → R → Bool) (rows : List R) → any_two (in_class hash 0 0 twins) rows ≡ false
    → any_two twins rows ≡ false
all_class hash twins rows e = each_class hash twins 0 rows (λ q l. let z : q ≡ 0 = omega arith in rw z e)

pub whole_class : {R : Type 0} (hash : R → ℕ) (twins : R → R → Bool) (rows : List R) (b : Bool) → b ≡ any_two (in_class hash 0 0 twins) rows
    → b ≡ any_two twins rows
whole_class hash twins rows true e = sym (one_class hash twins 0 0 rows (sym e))
whole_class hash twins rows false e = sym (all_class hash twins rows (sym e))
