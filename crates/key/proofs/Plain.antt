-- Twins among instance rows are twins among the live rows of the plain node's table.
use Prim.Native.Nat.{ℕ, suc}
use mathlib.Core.Path.{◌≡◌, refl, sym, ◌∙◌}
use mathlib.Core.Bool.{Bool, true, false, cond, ◌&&◌, ◌||◌, or-false}
use mathlib.Core.List.{List, [], ◌∷◌, ◌++◌, map}
use mathlib.Core.Option.{Option, some, none}
use mathlib.Core.Logic.{◌⊎◌, inl, inr}
use lib.Dec.{eqb}
use borrow.Author.Tests.{eqb-true}
use Rattle.plain.specs.Lists.{any, any_two, same}
use Rattle.plain.specs.Given.{RequestRow, ReplyRow, Instance}
use Rattle.plain.specs.Table.{Numbered, live, live_from, live_rows, instance_deadline}
use Rattle.plain.specs.Answers.{at_number, of_kind, as_request, as_reply, requests, replies, request_twins, reply_twins}
use Rattle.lemmas.proofs.Choice.{true_false, cond_true, cond_false, and_left, and_right}
use Rattle.lemmas.proofs.Same.{same_equal}
use Rattle.row.specs.Meaning.{instance_of, request_of, reply_of}
use Rattle.keyed.specs.Look.{of_row, held}
use Rattle.keyed.proofs.Laws.{request_part, reply_part}
use Rattle.row.specs.declared.InstanceRow.{InstanceRow}
use Rattle.first.proofs.Found.{seen, kind_cons}
use Rattle.key.specs.Pair.{same_key, twin_rows, twins_by}
use Rattle.key.proofs.Any.{two_same, two_either}

-- ---- what rows of one key have in common

pub key_parts : (a b : InstanceRow) → same_key a b ≡ true → (a.kind ≡ b.kind) × (a.instance ≡ b.instance) × (a.dodagid ≡ b.dodagid)
unfolding same_key
key_parts a b e =
    let rest = eqb a.instance b.instance && same a.dodagid b.dodagid in
    let r = and_right (eqb a.kind b.kind) rest e in (
      eqb-true a.kind b.kind (and_left (eqb a.kind b.kind) rest e),
      eqb-true a.instance b.instance (and_left (eqb a.instance b.instance) (same a.dodagid b.dodagid) r),
      same_equal a.dodagid b.dodagid (and_right (eqb a.instance b.instance) (same a.dodagid b.dodagid) r),
    )

-- twins are of one key, and both live
pub twins_are : {A : Type 0} (key : A → A → Bool) (lives : A → Bool) (a b : A) → twins_by key lives a b ≡ true
    → (key a b ≡ true) × (lives a ≡ true) × (lives b ≡ true)
unfolding twins_by
twins_are key lives a b e =
    let q = cond_true (key a b) (cond (lives a) (lives b) false) e in
    let l = cond_true (lives a) (lives b) q.1 in
    (q.0, l.0, l.1)

-- ---- what is said of the live rows of a kind is said of the records

-- both are there, and are so
abbrev pub both : {B : Type 0} → (B → B → Bool) → Option B → Option B → Bool
both q none o = false
both q (some a) o = held (q a) o

any_never : {R : Type 0} (rows : List R) → any (λ (r : R). false) rows ≡ false
unfolding any
any_never [] = refl
any_never (r ∷ rows) = any_never rows

module _ {R A B : Type 0} (read : R → Option A) (deadline : A → Option ℕ) (part : A → Option B) (c : ℕ) where
  any_seen : (f : B → Bool) (i : ℕ) (rows : List R)
      → any (λ (n : Numbered B). f n.row) (of_kind part (live_from deadline c i (map read rows)))
      ≡ any (λ (r : R). held f (seen deadline part c (read r))) rows
  unfolding any of_kind live_from
  any_seen f i [] = refl
  any_seen f i (r ∷ rows) = rw (kind_cons deadline part c i (read r) (map read rows)) (go (seen deadline part c (read r)) (any_seen f (suc i) rows))
    where
      go : (x : Option B)
          → any (λ (n : Numbered B). f n.row) (of_kind part (live_from deadline c (suc i) (map read rows)))
          ≡ any (λ (r : R). held f (seen deadline part c (read r))) rows
          → any (λ (n : Numbered B). f n.row) (at_number i x ++ of_kind part (live_from deadline c (suc i) (map read rows)))
          ≡ held f x || any (λ (r : R). held f (seen deadline part c (read r))) rows
      go none e = e
      go (some b) e = rw e

  pub two_seen : (q : B → B → Bool) (i : ℕ) (rows : List R)
      → any_two (λ (n m : Numbered B). q n.row m.row) (of_kind part (live_from deadline c i (map read rows)))
      ≡ any_two (λ (a b : R). both q (seen deadline part c (read a)) (seen deadline part c (read b))) rows
  unfolding any_two of_kind live_from
  two_seen q i [] = refl
  two_seen q i (r ∷ rows) = rw (kind_cons deadline part c i (read r) (map read rows)) (go (seen deadline part c (read r)) (two_seen q (suc i) rows))
    where
      go : (x : Option B)
          → any_two (λ (n m : Numbered B). q n.row m.row) (of_kind part (live_from deadline c (suc i) (map read rows)))
          ≡ any_two (λ (a b : R). both q (seen deadline part c (read a)) (seen deadline part c (read b))) rows
          → any_two (λ (n m : Numbered B). q n.row m.row) (at_number i x ++ of_kind part (live_from deadline c (suc i) (map read rows)))
          ≡ any (λ (b : R). both q x (seen deadline part c (read b))) rows
          || any_two (λ (a b : R). both q (seen deadline part c (read a)) (seen deadline part c (read b))) rows
      go none e = rw (any_never rows) e
      go (some a) e = rw (any_seen (q a) (suc i) rows, e)

pub both_none : {B : Type 0} (q : B → B → Bool) (o : Option B) → both q o none ≡ false
both_none q none = refl
both_none q (some b) = refl

pub cond_self : (k : Bool) → k ≡ cond k true false
cond_self true = refl
cond_self false = refl

-- G says something of two rows that are seen, and of one that is not live nothing
pub pair_is : {A : Type 0} (key : A → A → Bool) (lives : A → Bool) (a b : A) (G : Bool → Bool → Bool) → ((y : Bool) → G false y ≡ false)
    → G true false ≡ false → (lives a ≡ true → lives b ≡ true → G true true ≡ cond (key a b) true false) → G (lives a) (lives b) ≡ twins_by key lives a b
unfolding twins_by
pair_is key lives a b G f g h = go (lives a) refl (lives b) refl
  where
    go : (x : Bool) → lives a ≡ x → (y : Bool) → lives b ≡ y → G x y ≡ cond (key a b) (cond x y false) false
    go false e y d = f y ∙ sym (cond_false (key a b))
    go true e false d = g ∙ sym (cond_false (key a b))
    go true e true d = h e d

-- ---- instance rows

-- a live row is of one of the two kinds
live_kind : (t : ℕ) (r : InstanceRow) → live instance_deadline t (instance_of r) ≡ true → (r.kind ≡ 1) ⊎ (r.kind ≡ 2)
unfolding instance_of
live_kind t r = go (eqb r.kind 1) refl (eqb r.kind 2) refl
  where
    go : (x : Bool) → eqb r.kind 1 ≡ x → (y : Bool) → eqb r.kind 2 ≡ y
        → live instance_deadline t (cond x (some (Instance.request (request_of r))) (cond y (some (Instance.reply (reply_of r))) none)) ≡ true
        → (r.kind ≡ 1) ⊎ (r.kind ≡ 2)
    go true e y f l = inl (eqb-true r.kind 1 e)
    go false e true f l = inr (eqb-true r.kind 2 f)
    go false e false f l = true_false (sym l)

abbrev same_request : RequestRow → RequestRow → Bool
same_request a b = eqb a.instance b.instance && same a.dodagid b.dodagid

abbrev same_reply : ReplyRow → ReplyRow → Bool
same_reply a b = eqb a.instance b.instance && same a.dodagid b.dodagid

module _ (t : ℕ) (a b : InstanceRow) where
  -- both live: their kinds are 1 or 2
  both_live : (a.kind ≡ 1) ⊎ (a.kind ≡ 2) → (b.kind ≡ 1) ⊎ (b.kind ≡ 2)
      → both same_request (of_row as_request (instance_of a)) (of_row as_request (instance_of b))
      || both same_reply (of_row as_reply (instance_of a)) (of_row as_reply (instance_of b))
      ≡ cond (same_key a b) true false
  unfolding same_key request_of reply_of
  both_live (inl e) (inl f) =
      rw (request_part a, request_part b, reply_part a, reply_part b, e, f) (or-false
      (eqb a.instance b.instance && same a.dodagid b.dodagid) ∙ cond_self
      (eqb a.instance b.instance && same a.dodagid b.dodagid))
  both_live (inl e) (inr f) = rw (request_part a, request_part b, reply_part a, reply_part b, e, f)
  both_live (inr e) (inl f) = rw (request_part a, request_part b, reply_part a, reply_part b, e, f)
  both_live (inr e) (inr f) =
      rw (request_part a, request_part b, reply_part a, reply_part b, e, f) (cond_self
      (eqb a.instance b.instance && same a.dodagid b.dodagid))

  row_pair : both same_request (seen instance_deadline as_request t (instance_of a)) (seen instance_deadline as_request t (instance_of b))
      || both same_reply (seen instance_deadline as_reply t (instance_of a)) (seen instance_deadline as_reply t (instance_of b))
      ≡ twin_rows t a b
  row_pair =
      pair_is same_key (λ (r : InstanceRow). live instance_deadline t (instance_of r)) a b
      (λ x y. both same_request (cond x (of_row as_request (instance_of a)) none) (cond y (of_row as_request (instance_of b)) none)
      || both same_reply (cond x (of_row as_reply (instance_of a)) none) (cond y (of_row as_reply (instance_of b)) none))
      (λ y. refl) (rw (both_none same_request (of_row as_request (instance_of a)), both_none same_reply (of_row as_reply (instance_of a))))
      (λ e f. both_live (live_kind t a e) (live_kind t b f))

-- "two request rows, two reply rows .. of the same key, both live at the last accepted time"
pub rows_twins : (t : ℕ) (rows : List InstanceRow)
    → any_two (twin_rows t) rows
    ≡ any_two request_twins (requests (live_rows instance_deadline t (map instance_of rows)))
    || any_two reply_twins (replies (live_rows instance_deadline t (map instance_of rows)))
rows_twins t rows =
    sym (rw (two_seen instance_of instance_deadline as_request t same_request 0 rows, two_seen instance_of instance_deadline as_reply t same_reply 0 rows)
    (two_either
    (λ (a b : InstanceRow). both same_request (seen instance_deadline as_request t (instance_of a)) (seen instance_deadline as_request t (instance_of b)))
    (λ (a b : InstanceRow). both same_reply (seen instance_deadline as_reply t (instance_of a)) (seen instance_deadline as_reply t (instance_of b)))
    rows
    ∙ two_same _ (twin_rows t) (row_pair t) rows))
