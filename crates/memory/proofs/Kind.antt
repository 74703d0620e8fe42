-- The two kinds of instance rows, request rows and reply rows, and what is true of both.
use Prim.Native.Nat.{ℕ}
use mathlib.Core.Path.{◌≡◌, refl, sym, ap, ◌∙◌}
use mathlib.Core.Bool.{Bool, true, false, ◌&&◌}
use mathlib.Core.List.{List, []}
use mathlib.Core.Option.{Option, some, none}
use native.Mathlib.Omega.{arith}
use lib.Dec.{eqb, leb}
use lib.ListN.{length}
use borrow.Author.Tests.{eqb-true, eq-eqb}
use Rattle.plain.specs.Lists.{all, first_of, same, any_two}
use Rattle.plain.specs.Given.{RequestRow, ReplyRow, Instance}
use Rattle.plain.specs.Table.{Numbered, lasts, instance_deadline}
use Rattle.plain.specs.Answers.{short_prefix, as_request, as_reply, at_number, of_kind, good_deadline, good_instance}
use Rattle.plain.specs.Octets.{most_targets}
use Rattle.lemmas.proofs.Choice.{true_false, and_left, and_right, and_both}
use Rattle.lemmas.proofs.Same.{same_equal}
use Rattle.lemmas.specs.Each.{Each}
use Rattle.lemmas.proofs.Each.{Pairs, Found, first_found, pairs_none}
use Rattle.memory.proofs.OfKind.{each_kind, pairs_kind}
use Rattle.memory.proofs.Keys.{Key, instance_key, key_path, eq_same, Other, Tells}

-- the key of an instance row of a kind
abbrev pub key_of : ℕ → ℕ → List ℕ → Key
key_of kind number address = record { kind = kind; number = number; one = address; other = [] }

-- Rows of a kind among the instance rows.
pub record Kind : Type 1 where
  pub Row : Type 0
  pub whole : Row → Instance
  pub instance : Row → ℕ
  pub dodagid : Row → List ℕ
  pub deadline : Row → Option ℕ
  -- its kind in a key
  pub number : ℕ
  pub keyed : (b : Row) → instance_key (whole b) ≡ key_of number (instance b) (dodagid b)
  pub ended : (b : Row) → instance_deadline (whole b) ≡ deadline b
  pub good : (b : Row) → good_instance (whole b) ≡ true → good_deadline (deadline b) ≡ true
  -- what an instance row is of the kind
  pub part : Instance → Option Row
  -- it is one of the kind, or has another in its key
  pub split : (P : Instance → Option Row → Type 0) → ((b : Row) → P (whole b) (some b))
      → ((r : Instance) → ((instance_key r).kind ≡ number → ⊥) → P r none) → (r : Instance) → P r (part r)

pub request_good : (b : RequestRow) → good_instance (Instance.request b) ≡ true → good_deadline b.deadline ≡ true
unfolding good_instance
request_good b g =
    and_right (leb (length b.targets) most_targets && all short_prefix b.targets) (good_deadline b.deadline) g

pub request_split : (P : Instance → Option RequestRow → Type 0) → ((b : RequestRow) → P (Instance.request b) (some b))
    → ((r : Instance) → ((instance_key r).kind ≡ 0 → ⊥) → P r none) → (r : Instance) → P r (as_request r)
request_split P f g (Instance.request b) = f b
request_split P f g (Instance.reply b) = g (Instance.reply b) (omega arith)

abbrev pub request_kind : Kind
request_kind = record {
  Row = RequestRow;
  whole = λ b. Instance.request b;
  instance = λ b. b.instance;
  dodagid = λ b. b.dodagid;
  deadline = λ b. b.deadline;
  number = 0;
  keyed = λ b. refl;
  ended = λ b. refl;
  good = request_good;
  part = as_request;
  split = request_split;
}

pub reply_good : (b : ReplyRow) → good_instance (Instance.reply b) ≡ true → good_deadline b.deadline ≡ true
unfolding good_instance
reply_good b g = g

pub reply_split : (P : Instance → Option ReplyRow → Type 0) → ((b : ReplyRow) → P (Instance.reply b) (some b))
    → ((r : Instance) → ((instance_key r).kind ≡ 1 → ⊥) → P r none) → (r : Instance) → P r (as_reply r)
reply_split P f g (Instance.request b) = g (Instance.request b) (omega arith)
reply_split P f g (Instance.reply b) = f b

abbrev pub reply_kind_lem : Kind
reply_kind_lem = record {
  Row = ReplyRow;
  whole = λ b. Instance.reply b;
  instance = λ b. b.instance;
  dodagid = λ b. b.dodagid;
  deadline = λ b. b.deadline;
  number = 1;
  keyed = λ b. refl;
  ended = λ b. refl;
  good = reply_good;
  part = as_reply;
  split = reply_split;
}

-- ---- Tests of keys

test_hit : (kind a i : ℕ) (xs ys : List ℕ) → eqb a i && same xs ys ≡ true → key_of kind i ys ≡ key_of kind a xs
test_hit kind a i xs ys e =
    key_path kind i a ys xs [] [] (sym (eqb-true a i (and_left (eqb a i) (same xs ys) e)))
    (sym (same_equal xs ys (and_right (eqb a i) (same xs ys) e))) refl

test_miss : (kind a i : ℕ) (xs ys : List ℕ) (l : Bool) → eqb a i && same xs ys && l ≡ false → l ≡ true → key_of kind a xs ≡ key_of kind i ys → ⊥
test_miss kind a i xs ys l e h z =
    true_false (sym (and_both (eqb a i && same xs ys) l
    (and_both (eqb a i) (same xs ys) (eq-eqb a i (ap (λ (y : Key). y.number) z)) (eq_same xs ys (ap (λ (y : Key). y.one) z))) h) ∙ e)

pub other_kind : (k l : Key) → (k.kind ≡ l.kind → ⊥) → k ≡ l → ⊥
other_kind k l f z = f (ap (λ (y : Key). y.kind) z)

-- a test that tells one key from another
pub apart_test : (b : Bool) (k l : Key) → (b ≡ true → l ≡ k) → (l ≡ k → ⊥) → b ≡ false
apart_test true k l f g = absurd (g (f refl))
apart_test false k l f g = refl

-- two rows that are seen have other keys
abbrev pub RowsApart : Numbered Instance → Numbered Instance → Type 0
RowsApart n m = instance_key m.row ≡ instance_key n.row → ⊥

module _ (K : Kind) where
  abbrev pub same_row : K.Row → K.Row → Bool
  same_row a b = eqb (K.instance a) (K.instance b) && same (K.dodagid a) (K.dodagid b)

  -- a row of the key of q that is live at t
  abbrev pub row_for : ℕ → K.Row → Numbered K.Row → Bool
  row_for t q n = same_row n.row q && lasts t (K.deadline n.row)

  same_hit : (a b : K.Row) → same_row a b ≡ true → instance_key (K.whole b) ≡ instance_key (K.whole a)
  same_hit a b e = K.keyed b ∙ test_hit K.number (K.instance a) (K.instance b) (K.dodagid a) (K.dodagid b) e ∙ sym (K.keyed a)

  -- the test by which a row is looked for tells its key
  pub tells : (t : ℕ) (q : K.Row) → Tells instance_deadline instance_key K.part (row_for t q) (K.whole q) t
  tells t q = record { hit = hit; miss = miss }
    where
      hit : (i : ℕ) (r : Instance)
          → Each (λ (n : Numbered K.Row). (n.number ≡ i) × (row_for t q n ≡ true → instance_key (K.whole q) ≡ instance_key r)) (at_number i (K.part r))
      hit i =
          K.split
          (λ r o. Each (λ (n : Numbered K.Row). (n.number ≡ i) × (row_for t q n ≡ true → instance_key (K.whole q) ≡ instance_key r)) (at_number i o))
          (λ b. ((refl, λ e. same_hit b q (and_left (same_row b q) (lasts t (K.deadline b)) e)), tt)) (λ r f. tt)

      miss : (i : ℕ) (r : Instance) → Each (λ (n : Numbered K.Row). row_for t q n ≡ false) (at_number i (K.part r))
          → Other instance_deadline instance_key t (instance_key (K.whole q)) r
      miss i =
          K.split (λ r o. Each (λ (n : Numbered K.Row). row_for t q n ≡ false) (at_number i o)
          → Other instance_deadline instance_key t (instance_key (K.whole q)) r)
          (λ b k l z. test_miss K.number (K.instance b) (K.instance q) (K.dodagid b) (K.dodagid q) (lasts t (K.deadline b)) k.0
          (rw (K.ended b) at l) (sym (K.keyed b) ∙ z ∙ K.keyed q))
          (λ r f k l. other_kind (instance_key r) (instance_key (K.whole q)) (λ e. f (e ∙ ap (λ (y : Key). y.kind) (K.keyed q))))

  -- no two rows of other keys are twins
  pub no_twins : (ns : List (Numbered Instance)) → Pairs RowsApart ns → any_two (λ (a b : Numbered K.Row). same_row a.row b.row) (of_kind K.part ns)
      ≡ false
  no_twins ns h =
      pairs_none (λ (a b : Numbered K.Row). same_row a.row b.row) (of_kind K.part ns)
      (pairs_kind K.part RowsApart Apart
      (λ i. K.split (λ r o. Pairs Apart (at_number i o)) (λ b. (tt, tt)) (λ r f. tt))
      (λ n m. two n.number m.number n.row m.row) ns h)
    where
      Apart : Numbered K.Row → Numbered K.Row → Type 0
      Apart a b = same_row a.row b.row ≡ false

      one : (a : Numbered K.Row) (j : ℕ) (q : Instance) → (instance_key q ≡ instance_key (K.whole a.row) → ⊥) → Each (Apart a) (at_number j (K.part q))
      one a j =
          K.split (λ q o. (instance_key q ≡ instance_key (K.whole a.row) → ⊥) → Each (Apart a) (at_number j o))
          (λ b f. (apart_test (same_row a.row b) (instance_key (K.whole a.row)) (instance_key (K.whole b)) (same_hit a.row b) f, tt))
          (λ q g f. tt)

      two : (i j : ℕ) (p q : Instance) → (instance_key q ≡ instance_key p → ⊥)
          → Each (λ (a : Numbered K.Row). Each (Apart a) (at_number j (K.part q))) (at_number i (K.part p))
      two i j p q =
          K.split
          (λ p o. (instance_key q ≡ instance_key p → ⊥) → Each (λ (a : Numbered K.Row). Each (Apart a) (at_number j (K.part q))) (at_number i o))
          (λ a f. (one (record { number = i; row = a }) j q f, tt)) (λ p g f. tt) p

  -- a row that is found among good ones has a good deadline
  abbrev pub Lasts : Numbered K.Row → Type 0
  Lasts n = good_deadline (K.deadline n.row) ≡ true

  pub found_lasts : (p : Numbered K.Row → Bool) (ns : List (Numbered Instance)) → Each (λ (n : Numbered Instance). good_instance n.row ≡ true) ns
      → Found Lasts p (of_kind K.part ns) (first_of p (of_kind K.part ns))
  found_lasts p ns g =
      first_found Lasts p (of_kind K.part ns)
      (each_kind K.part (λ (n : Numbered Instance). good_instance n.row ≡ true) Lasts
      (λ n k. K.split (λ r o. good_instance r ≡ true → Each Lasts (at_number n.number o)) (λ b k. (K.good b k, tt)) (λ r f k. tt) n.row k) ns g)
