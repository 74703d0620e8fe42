-- What holds of numbered rows, and of those of a kind among them.
use Prim.Native.Nat.{ℕ}
use mathlib.Core.List.{List, [], ◌∷◌}
use mathlib.Core.Option.{Option}
use Rattle.plain.specs.Table.{Numbered}
use Rattle.plain.specs.Answers.{at_number, of_kind}
use Rattle.lemmas.specs.Each.{Each}
use Rattle.lemmas.proofs.Each.{Pairs, each_always, each_append, each_front, each_back, each_joined, pairs_append}

module _ {A B : Type 0} (kind : A → Option B) where
  pub each_kind : (P : Numbered A → Type 0) (Q : Numbered B → Type 0) → ((n : Numbered A) → P n → Each Q (at_number n.number (kind n.row)))
      → (ns : List (Numbered A)) → Each P ns → Each Q (of_kind kind ns)
  unfolding of_kind
  each_kind P Q f [] h = tt
  each_kind P Q f (n ∷ ns) h = each_append Q (at_number n.number (kind n.row)) (of_kind kind ns) (f n h.0) (each_kind P Q f ns h.1)

  pub kind_each : (Q : Numbered B → Type 0) (ns : List (Numbered A)) → Each Q (of_kind kind ns) → Each (λ (n : Numbered A). Each Q (at_number n.number (kind n.row))) ns
  unfolding of_kind
  kind_each Q [] h = tt
  kind_each Q (n ∷ ns) h =
      (each_front Q (at_number n.number (kind n.row)) (of_kind kind ns) h, kind_each Q ns (each_back Q (at_number n.number (kind n.row)) (of_kind kind ns) h))

module _ {A B : Type 0} (kind : A → Option B) (R : Numbered A → Numbered A → Type 0) (S : Numbered B → Numbered B → Type 0) where
  -- two that are apart are apart as rows of the kind
  pub pairs_kind : ((i : ℕ) (r : A) → Pairs S (at_number i (kind r)))
      → ((n m : Numbered A) → R n m → Each (λ (x : Numbered B). Each (S x) (at_number m.number (kind m.row))) (at_number n.number (kind n.row)))
      → (ns : List (Numbered A)) → Pairs R ns → Pairs S (of_kind kind ns)
  unfolding of_kind
  pairs_kind one f [] h = tt
  pairs_kind one f (n ∷ ns) h =
      pairs_append S (at_number n.number (kind n.row)) (of_kind kind ns) (one n.number n.row) (rest ns h.0) (pairs_kind one f ns h.1)
    where
      rest : (ms : List (Numbered A)) → Each (R n) ms → Each (λ (x : Numbered B). Each (S x) (of_kind kind ms)) (at_number n.number (kind n.row))
      rest [] k = each_always (λ (x : Numbered B). Unit {0}) (λ x. tt) (at_number n.number (kind n.row))
      rest (m ∷ ms) k =
          each_joined S (at_number n.number (kind n.row)) (at_number m.number (kind m.row)) (of_kind kind ms) (f n m k.0) (rest ms k.1)
