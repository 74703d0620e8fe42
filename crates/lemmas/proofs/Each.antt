-- Each element of a list is so; each two are so.
use Prim.Native.Nat.{ℕ, zero, suc, ◌<◌, ◌≤◌}
use mathlib.Core.Path.{◌≡◌, refl}
use mathlib.Core.Bool.{Bool, true, false, cond, not}
use mathlib.Core.List.{List, [], ◌∷◌, ◌++◌, map, flatten}
use mathlib.Core.Option.{Option, some, none}
use native.Mathlib.Omega.{arith}
use lib.ListN.{length, get_or, take, drop}
use Rattle.plain.specs.Lists.{any, all, those, first_of, any_two, once_after}
use Rattle.lemmas.specs.Each.{Each, Octets}
use Rattle.lemmas.proofs.Walk.{settled_by}
use Rattle.lemmas.proofs.Choice.{cond_case, or_left, or_right, or_neither, and_both}

-- any two, one before the other
abbrev pub Pairs : {A : Type 0} → (A → A → Type 0) → List A → Type 0
Pairs R [] = Unit {0}
Pairs R (x ∷ xs) = Each (R x) xs × Pairs R xs

module _ {A : Type 0} (P : A → Type 0) where
  pub each_always : ((x : A) → P x) → (xs : List A) → Each P xs
  each_always f [] = tt
  each_always f (x ∷ xs) = (f x, each_always f xs)

  pub each_weaken : (Q : A → Type 0) → ((x : A) → P x → Q x) → (xs : List A) → Each P xs → Each Q xs
  each_weaken Q f [] h = tt
  each_weaken Q f (x ∷ xs) h = (f x h.0, each_weaken Q f xs h.1)

  pub each_append : (xs ys : List A) → Each P xs → Each P ys → Each P (xs ++ ys)
  each_append [] ys h k = k
  each_append (x ∷ xs) ys h k = (h.0, each_append xs ys h.1 k)

  pub each_front : (xs ys : List A) → Each P (xs ++ ys) → Each P xs
  each_front [] ys h = tt
  each_front (x ∷ xs) ys h = (h.0, each_front xs ys h.1)

  pub each_back : (xs ys : List A) → Each P (xs ++ ys) → Each P ys
  each_back [] ys h = h
  each_back (x ∷ xs) ys h = each_back xs ys h.1

  pub each_those : (p : A → Bool) (xs : List A) → Each P xs → Each P (those p xs)
  unfolding those
  each_those p [] h = tt
  each_those p (x ∷ xs) h =
      cond_case (Each P) (p x) (x ∷ those p xs) (those p xs) (λ e. (h.0, each_those p xs h.1)) (λ e. each_those p xs h.1)

  pub each_once : (same : A → A → Bool) (earlier xs : List A) → Each P xs → Each P (once_after same earlier xs)
  unfolding once_after
  each_once same earlier [] h = tt
  each_once same earlier (x ∷ xs) h =
      cond_case (Each P) (any (same x) earlier) (once_after same earlier xs) (x ∷ once_after same (earlier ++ (x ∷ [])) xs)
      (λ e. each_once same earlier xs h.1) (λ e. (h.0, each_once same (earlier ++ (x ∷ [])) xs h.1))

  pub each_flatten : (xss : List (List A)) → Each (λ xs. Each P xs) xss → Each P (flatten xss)
  unfolding flatten
  each_flatten [] h = tt
  each_flatten (xs ∷ xss) h = each_append xs (flatten xss) h.0 (each_flatten xss h.1)

  pub each_take : (n : ℕ) (xs : List A) → Each P xs → Each P (take n xs)
  each_take zero xs h = tt
  each_take (suc n) [] h = tt
  each_take (suc n) (x ∷ xs) h = (h.0, each_take n xs h.1)

  pub each_drop : (n : ℕ) (xs : List A) → Each P xs → Each P (drop n xs)
  each_drop zero xs h = h
  each_drop (suc n) [] h = tt
  each_drop (suc n) (x ∷ xs) h = each_drop n xs h.1

  -- what is known of the first that is so, and where there is none
  abbrev pub Found : (A → Bool) → List A → Option A → Type 0
  Found p xs none = Each (λ (x : A). p x ≡ false) xs
  Found p xs (some x) = P x × (p x ≡ true)

  -- what holds of none and of each that is known so
  pub found_case : (Q : Option A → Type 0) (p : A → Bool) (xs : List A) (o : Option A) → Q none → ((x : A) → P x → Q (some x)) → Found p xs o → Q o
  found_case Q p xs none n f h = n
  found_case Q p xs (some x) n f h = f x h.0

  pub first_found : (p : A → Bool) (xs : List A) → Each P xs → Found p xs (first_of p xs)
  unfolding first_of
  first_found p [] h = tt
  first_found p (x ∷ xs) h = go (p x) refl (first_found p xs h.1)
    where
      next : p x ≡ false → (o : Option A) → Found p xs o → Found p (x ∷ xs) o
      next e none k = (e, k)
      next e (some y) k = k

      go : (b : Bool) → p x ≡ b → Found p xs (first_of p xs) → Found p (x ∷ xs) (cond b (some x) (first_of p xs))
      go true e k = (h.0, e)
      go false e k = next e (first_of p xs) k

-- the elements f x of a list are so where each x is what makes them so
pub each_map : {A B : Type 0} (P : A → Type 0) (Q : B → Type 0) (f : A → B) → ((x : A) → P x → Q (f x)) → (xs : List A) → Each P xs
    → Each Q (map f xs)
each_map P Q f g [] h = tt
each_map P Q f g (x ∷ xs) h = (g x h.0, each_map P Q f g xs h.1)

-- the octet at i, 0 past the end
pub octet_lt : (xs : List ℕ) (i : ℕ) → Octets xs → get_or xs i 0 < 256
octet_lt [] i h = omega arith
octet_lt (x ∷ xs) zero h = h.0
octet_lt (x ∷ xs) (suc i) h = octet_lt xs i h.1

-- ---- Tests

module _ {A : Type 0} where
  pub any_none : (p : A → Bool) (xs : List A) → any p xs ≡ false → Each (λ (x : A). p x ≡ false) xs
  unfolding any
  any_none p [] e = tt
  any_none p (x ∷ xs) e = (or_left (p x) (any p xs) e, any_none p xs (or_right (p x) (any p xs) e))

  -- where no element settles it
  pub each_settles : (by : Bool) (p : A → Bool) (xs : List A) → Each (λ (x : A). p x ≡ not by) xs → settled_by by p xs ≡ not by
  unfolding any all
  each_settles true p [] h = refl
  each_settles false p [] h = refl
  each_settles true p (x ∷ xs) h = or_neither (p x) (any p xs) h.0 (each_settles true p xs h.1)
  each_settles false p (x ∷ xs) h = and_both (p x) (all p xs) h.0 (each_settles false p xs h.1)

  pub pairs_none : (p : A → A → Bool) (xs : List A) → Pairs (λ (x y : A). p x y ≡ false) xs → any_two p xs ≡ false
  unfolding any_two
  pairs_none p [] h = refl
  pairs_none p (x ∷ xs) h = or_neither (any (p x) xs) (any_two p xs) (each_settles true (p x) xs h.0) (pairs_none p xs h.1)

  pub those_less : (p : A → Bool) (xs : List A) → length (those p xs) ≤ length xs
  unfolding those
  those_less p [] = omega arith
  those_less p (x ∷ xs) =
      cond_case (λ (ys : List A). length ys ≤ suc (length xs)) (p x) (x ∷ those p xs) (those p xs)
      (λ e. omega (arith, those_less p xs)) (λ e. omega (arith, those_less p xs))

-- ---- Each two

pub pairs_weaken : {A : Type 0} (R S : A → A → Type 0) → ((x y : A) → R x y → S x y) → (xs : List A) → Pairs R xs → Pairs S xs
pairs_weaken R S f [] h = tt
pairs_weaken R S f (x ∷ xs) h = (each_weaken (R x) (S x) (f x) xs h.0, pairs_weaken R S f xs h.1)

pub pairs_append : {A : Type 0} (R : A → A → Type 0) (xs ys : List A) → Pairs R xs → Each (λ (x : A). Each (R x) ys) xs → Pairs R ys → Pairs R (xs ++ ys)
pairs_append R [] ys h k g = g
pairs_append R (x ∷ xs) ys h k g = (each_append (R x) xs ys h.0 k.0, pairs_append R xs ys h.1 k.1 g)

pub each_joined : {A : Type 0} (R : A → A → Type 0) (xs ys zs : List A) → Each (λ (x : A). Each (R x) ys) xs → Each (λ (x : A). Each (R x) zs) xs
    → Each (λ (x : A). Each (R x) (ys ++ zs)) xs
each_joined R [] ys zs h k = tt
each_joined R (x ∷ xs) ys zs h k = (each_append (R x) ys zs h.0 k.0, each_joined R xs ys zs h.1 k.1)
