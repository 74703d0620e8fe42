-- A loop that keeps those elements of a list that are so, in their order.
use Prim.Native.Nat.{ℕ, ◌+◌, ◌≤◌, ◌<◌}
use mathlib.Core.Path.{◌≡◌, refl, sym, ◌∙◌}
use mathlib.Core.Bool.{Bool, true, false, cond}
use mathlib.Core.List.{List, [], ◌∷◌, ◌++◌, append-nil}
use lib.ListN.{length, get_or, drop, drop_of_length-le}
use lib.Seq.{append_snoc}
use native.Mathlib.Omega.{arith}
use Rattle.plain.specs.Blank.{Padded}
use Rattle.plain.specs.Lists.{those}
use Rattle.plain.specs.declared.Target.{Target}
use Rattle.targets.specs.declared.Targets.{Targets}
use Rattle.lemmas.proofs.Walk.{left_at}
use Rattle.kept.specs.Kept.{list_of, Kept}

-- what is kept before place i, and those that are to come, are all
abbrev pub Sifted : {A : Type 0} → (A → Bool) → List A → ℕ → List A → Type 0
Sifted p xs i kept = kept ++ those p (drop i xs) ≡ those p xs

one_more : {A : Type 0} (b : Bool) (x : A) (kept rest : List A)
    → cond b (kept ++ (x ∷ [])) kept ++ rest ≡ kept ++ cond b (x ∷ rest) rest
one_more true x kept rest = append_snoc kept x rest
one_more false x kept rest = refl

module _ {A : Type 0} (p : A → Bool) (xs : List A) (i : ℕ) (kept : List A) (v : Sifted p xs i kept) where
  sift_more : (d : A) (more : List A) → i < length xs → more ≡ cond (p (get_or xs i d)) (kept ++ (get_or xs i d ∷ [])) kept → Sifted p xs (i + 1) more
  unfolding those
  sift_more d more h e =
      rw e (one_more (p (get_or xs i d)) (get_or xs i d) kept (those p (drop (i + 1) xs))) ∙ (rw (left_at xs i d h) at v)

  pub sift_end : length xs ≤ i → kept ≡ those p xs
  unfolding those
  sift_end h = sym (append-nil kept) ∙ (rw (drop_of_length-le xs {i = i} h) at v)

-- ---- targets

-- at place i: no more are kept than came
pub record Keeping (p : Target → Bool) (ts : List Target) (i : ℕ) (kept : Targets) : Type 0 where
  pub whole : kept.over ≡ false
  pub few : kept.count ≤ i
  pub sifted : Sifted p ts i (list_of kept)
  pub padded : Padded kept.count kept.list

pub keep_more : {p : Target → Bool} {ts : List Target} {i : ℕ} {kept more : Targets} (t : Target) {keep : Bool} → Keeping p ts i kept → i < length ts
    → keep ≡ p (get_or ts i t)
    → Kept (cond keep (list_of kept ++ (get_or ts i t ∷ [])) (list_of kept)) more × (more.count ≤ kept.count + 1) → Keeping p ts (i + 1) more
keep_more {p = p} {ts = ts} {i = i} {kept = kept} {more = more} t k h e w = record {
  whole = w.0.held.whole;
  few = omega (arith, k.few, w.1);
  sifted = sift_more p ts i (list_of kept) k.sifted t (list_of more) h (rw e at w.0.held.listed);
  padded = w.0.padded;
}
