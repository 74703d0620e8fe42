-- What `position` answers after a chain that yields the records of a table: the number of the first whose meaning is so.
use Prim.Native.Nat.{ℕ, ◌+◌, ◌-◌, ◌<◌, ◌≤◌}
use mathlib.Core.Path.{◌≡◌, refl, sym, ap, ◌∙◌}
use mathlib.Core.Bool.{Bool, true, false, cond}
use mathlib.Core.List.{List, map}
use native.Mathlib.Omega.{arith}
use lib.Dec.{ltb}
use borrow.Author.Tests.{lt-ltb, le-ltb, ltb-true, ltb-false}
use lib.ListN.{length, length-map, length-drop, drop}
use denote.Param.Members.{Mut}
use Rattle.std.proofs.lemmas.Iterator.{YieldsList}
use Rattle.std.proofs.lemmas.Iterator.Search.{position_from_yields_List}
use Rattle.std.proofs.lemmas.Option.{cond_some, none-some}
use Rattle.std.proofs.lemmas.List.Recursion.{is_position_or_len}
use Rattle.std.specs.Fn.{Called}
use Rattle.std.specs.Iterator.{YieldsThen}
use Rattle.std.specs.List.{FoldsTo, position_or_len}
use Rattle.std.specs.Option.{MatchOption, is_some}
use Rattle.std.specs.Prelude.{Option, Some, None}
use Rattle.first.proofs.Search.{map_drop}
use Rattle.first.specs.First.{first, first_from, below, found_at, found_from}

-- the library's word for the first number is `first`
pub first_listed : {R A : Type 0} (read : R → A) (p : A → Bool) (rows : List R) → first p (map read rows) ≡ position_or_len (λ r. p (read r)) rows
unfolding first
first_listed read p = is_position_or_len (λ rows. first p (map read rows)) (λ r. p (read r)) refl (λ x xs. ap (cond (p (read x)) 0) (omega arith))

-- what `position` answers after a chain that yields the records
pub position_run : {S T R A F : Type 0} {steps : S → Option T → S → Type 0} {v : T → R} {g : Mut F (T × Unit {0}) Bool} {s : S} {rows : List R} (read : R → A) (p : A → Bool) (u : S) (f : F) → (r : Option ℕ) → (xs : List T) × (o : Option T) × (j : F) × YieldsThen steps s xs o u × FoldsTo (λ p x q. Called g p (x, tt) false q) f xs j × MatchOption o (r ≡ None) (λ x. (r ≡ Some (length xs)) × ((h : F) × Called g j (x, tt) true h)) → YieldsList steps v s rows → ((x : T) (b : Bool) (q : F) → Called g f (x, tt) b q → (q ≡ f) × (b ≡ p (read (v x)))) → r ≡ found_at p (map read rows)
position_run {rows = rows} read p u f r ran it step =
    position_from_yields_List (λ r. p (read r)) u f r ran it step ∙ rw (first_listed read p rows, length-map rows read)

-- ---- a number below the length

module _ {A : Type 0} (xs : List A) (n : ℕ) where
  below_is : n < length xs → below xs n ≡ Some n
  below_is h = rw (lt-ltb n (length xs) h) refl

  below_not : length xs ≤ n → below xs n ≡ None
  below_not h = rw (le-ltb n (length xs) h) refl

  below_some : (k : ℕ) → below xs n ≡ Some k → (n < length xs) × (n ≡ k)
  below_some k e = let b = cond_some (ltb n (length xs)) n k e in (ltb-true n (length xs) b.0, b.1)

  below_none : below xs n ≡ None → length xs ≤ n
  below_none = go (ltb n (length xs)) refl
    where
      go : (b : Bool) → ltb n (length xs) ≡ b → cond b (Some n) None ≡ None → length xs ≤ n
      go true e f = absurd (none-some n (sym f))
      go false e f = ltb-false n (length xs) e

  below_told : is_some (below xs n) ≡ ltb n (length xs)
  below_told = go (ltb n (length xs))
    where
      go : (b : Bool) → is_some (cond b (Some n) None) ≡ b
      go true = refl
      go false = refl

-- ---- what is known of the answer of a search

module _ {R A : Type 0} (read : R → A) (p : A → Bool) (rows : List R) (r : Option ℕ) where
  module _ (e : r ≡ found_at p (map read rows)) where
    -- a number is the first, and below the length
    pub found_first : (k : ℕ) → r ≡ Some k → k ≡ first p (map read rows)
    found_first k f = sym (below_some (map read rows) (first p (map read rows)) k (sym e ∙ f)).1

    pub found_within : (k : ℕ) → r ≡ Some k → k < length rows
    found_within k f =
        let b = below_some (map read rows) (first p (map read rows)) k (sym e ∙ f) in
        rw (b.1, length-map rows read) at b.0

    -- none: the first is the length
    pub found_past : r ≡ None → length rows ≤ first p (map read rows)
    found_past f = rw (length-map rows read) at (below_none (map read rows) (first p (map read rows)) (sym e ∙ f))

    -- whether there is one
    pub found_told : is_some r ≡ ltb (first p (map read rows)) (length rows)
    found_told = rw (e, ← length-map rows read) (below_told (map read rows) (first p (map read rows)))

  module _ (i : ℕ) (e : r ≡ found_from p i (map read rows)) where
    pub from_first : (k : ℕ) → r ≡ Some k → k ≡ first_from p i (map read rows)
    from_first k f = sym (below_some (map read rows) (first_from p i (map read rows)) k (sym e ∙ f)).1

    pub from_within : (k : ℕ) → r ≡ Some k → k < length rows
    from_within k f =
        let b = below_some (map read rows) (first_from p i (map read rows)) k (sym e ∙ f) in
        rw (b.1, length-map rows read) at b.0

    pub from_past : r ≡ None → length rows ≤ first_from p i (map read rows)
    from_past f = rw (length-map rows read) at (below_none (map read rows) (first_from p i (map read rows)) (sym e ∙ f))

-- ---- a search from an element on

module _ {R A : Type 0} (read : R → A) (p : A → Bool) (rows : List R) (i : ℕ) where
  module _ (rest : List R) (r : Option ℕ) (e : rest ≡ drop i rows) (f : r ≡ found_at p (map read rest)) where
    on : first_from p i (map read rows) ≡ i + first p (map read rest)
    on = rw (map_drop read i rows, ← e) refl

    pub rest_some : (k : ℕ) → r ≡ Some k → Some (i + k) ≡ found_from p i (map read rows)
    rest_some k g =
        let a : first_from p i (map read rows) ≡ i + k = on ∙ ap (λ n. i + n) (sym (found_first read p rest r f k g)) in
        let b : k < length rest = found_within read p rest r f k g in
        let c : length rest ≡ length rows - i = ap length e ∙ length-drop i rows in
        let l = length-map rows read in
        rw a (sym (below_is (map read rows) (i + k) (omega (arith, b, c, l))))

    pub rest_none : r ≡ None → None ≡ found_from p i (map read rows)
    rest_none g =
        let a = on in
        let b : length rest ≤ first p (map read rest) = found_past read p rest r f g in
        let c : length rest ≡ length rows - i = ap length e ∙ length-drop i rows in
        let l = length-map rows read in
        sym (below_not (map read rows) (first_from p i (map read rows)) (omega (arith, a, b, c, l)))
