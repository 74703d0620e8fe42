-- What stands before an address, by the address's place in the vector.
use Prim.Native.Nat.{ℕ, suc, ◌+◌, ◌-◌, ◌≤◌}
use mathlib.Core.Path.{◌≡◌, refl, ap, ◌∙◌}
use mathlib.Core.Bool.{Bool, true, false, cond, not}
use mathlib.Core.List.{List, [], ◌∷◌}
use native.Mathlib.Omega.{arith}
use lib.Dec.{ltb}
use lib.ListN.{length, get_or, take}
use borrow.Author.Tests.{ltb-false}
use Rattle.std.specs.Prelude.{Option, slice_get}
use Rattle.std.specs.Prelude.Option.{Some, None}
use Rattle.std.specs.Option.{unwrap_or}
use Rattle.std.specs.List.{position_or_len}
use Rattle.std.proofs.lemmas.Option.{unwrap_or-slice_get}
use Rattle.plain.specs.Lists.{same}
use Rattle.plain.specs.Address.{Address}
use Rattle.plain.specs.Reply.{before}

pub place_within : {A : Type 0} (p : A → Bool) (xs : List A) → position_or_len p xs ≤ length xs
place_within p [] = omega arith
place_within p (x ∷ xs) = go (p x) (place_within p xs)
  where
    go : (b : Bool) → position_or_len p xs ≤ length xs → cond (not b) (1 + position_or_len p xs) 0 ≤ suc (length xs)
    go true h = omega arith
    go false h = omega arith

-- what `position` answers, or the length where it finds nothing
pub place_or_length : {A : Type 0} (p : A → Bool) (xs : List A) (r : Option ℕ)
    → r ≡ cond (ltb (position_or_len p xs) (length xs)) (Some (position_or_len p xs)) None → unwrap_or r (length xs) ≡ position_or_len p xs
place_or_length p xs r e = ap (λ o. unwrap_or o (length xs)) e ∙ go (ltb (position_or_len p xs) (length xs)) refl
  where
    go : (b : Bool) → ltb (position_or_len p xs) (length xs) ≡ b → unwrap_or (cond b (Some (position_or_len p xs)) None) (length xs) ≡ position_or_len p xs
    go true f = refl
    go false f = omega (arith, ltb-false (position_or_len p xs) (length xs) f, place_within p xs)

-- the last address, `first` where there is none
abbrev last_or : Address → List Address → Address
last_or first v = get_or v (length v - 1) first

last_any : (z : Address) (v : List Address) (d e : Address) → get_or (z ∷ v) (length v) d ≡ get_or (z ∷ v) (length v) e
last_any z [] d e = refl
last_any z (x ∷ v) d e = last_any x v d e

last_more : (first y : Address) (ys : List Address) → last_or first (y ∷ ys) ≡ last_or y ys
last_more first y [] = refl
last_more first y (z ∷ zs) =
    let p : suc (suc (length zs)) - 1 ≡ suc (length zs) = omega arith in
    let q : suc (length zs) - 1 ≡ length zs = omega arith in
    rw (p, q) (last_any z zs first y)

last_before : (first a : Address) (v : List Address) → last_or first (take (position_or_len (same a) v) v) ≡ before first a v
unfolding before
last_before first a [] = refl
last_before first a (y ∷ ys) = go (same a y) (last_more first y (take (position_or_len (same a) ys) ys) ∙ last_before y a ys)
  where
    go : (b : Bool) → last_or first (y ∷ take (position_or_len (same a) ys) ys) ≡ before y a ys
        → last_or first (take (cond (not b) (1 + position_or_len (same a) ys) 0) (y ∷ ys)) ≡ cond b first (before y a ys)
    go true h = refl
    go false h = let e : 1 + position_or_len (same a) ys ≡ suc (position_or_len (same a) ys) = omega arith in rw e h

-- as the slice of what stands before it answers
pub before_place : (first a : Address) (v : List Address) (i : ℕ) → i ≡ position_or_len (same a) v
    → unwrap_or (slice_get (take i v) (length (take i v) - 1)) first ≡ before first a v
before_place first a v i e =
    let w = take (position_or_len (same a) v) v in
    rw e (unwrap_or-slice_get w (length w - 1) first ∙ last_before first a v)
