-- Parts of octets, one for each element of a list, written in its order.
use Prim.Native.Nat.{ℕ, zero, suc, ◌+◌, ◌≤◌, ◌<◌}
use mathlib.Core.Path.{◌≡◌, refl, sym}
use mathlib.Core.List.{List, [], ◌∷◌, ◌++◌, map, flatten, append_assoc, append-nil}
use native.Mathlib.Omega.{arith}
use native.Mathlib.Numerals.{add-one}
use lib.ListN.{length, get_or, take, length-append}
use Rattle.lemmas.specs.Written.{Written}

module _ {A : Type 0} (f : A → List ℕ) where
  pub parts_none : (xs : List A) → flatten (map f (take 0 xs)) ≡ []
  unfolding flatten
  parts_none xs = refl

  suc_parts : (i : ℕ) (xs : List A) (d : A) → i < length xs → flatten (map f (take (suc i) xs)) ≡ flatten (map f (take i xs)) ++ f (get_or xs i d)
  unfolding flatten
  suc_parts i [] d h = absurd (omega arith)
  suc_parts zero (x ∷ xs) d h = append-nil (f x)
  suc_parts (suc i) (x ∷ xs) d h = rw (suc_parts i xs d (omega arith)) (sym (append_assoc (f x) (flatten (map f (take i xs))) (f (get_or xs i d))))

  -- one part more
  pub parts_more : (i : ℕ) (xs : List A) (d : A) → i < length xs
      → flatten (map f (take (i + 1) xs)) ≡ flatten (map f (take i xs)) ++ f (get_or xs i d)
  parts_more i xs d h = rw add-one (suc_parts i xs d h)

  parts_before : (i : ℕ) (xs : List A) (d : A) → i < length xs
      → length (flatten (map f (take i xs))) + length (f (get_or xs i d)) ≤ length (flatten (map f xs))
  unfolding flatten
  parts_before i [] d h = absurd (omega arith)
  parts_before zero (x ∷ xs) d h = omega (arith, length-append (f x) (flatten (map f xs)))
  parts_before (suc i) (x ∷ xs) d h =
      omega (
        arith,
        length-append (f x) (flatten (map f (take i xs))),
        length-append (f x) (flatten (map f xs)),
        parts_before i xs d (omega arith),
      )

  -- where a buffer has room for all parts, it has room for part i after those before it
  pub parts_room : (i at : ℕ) (xs : List A) (d : A) (out₀ out : List ℕ) → i < length xs → Written (flatten (map f (take i xs))) out₀ out at
      → length (flatten (map f xs)) ≤ length out₀ → length out ≡ length out₀ → at + length (f (get_or xs i d)) ≤ length out
  parts_room i at xs d out₀ out h w m e = omega (arith, parts_before i xs d h, w.count)
