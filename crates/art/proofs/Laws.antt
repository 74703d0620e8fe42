-- What an ART's octets make.
use Prim.Native.Nat.{ℕ, ◌+◌, ◌-◌, ◌≤◌}
use mathlib.Core.Path.{◌≡◌, ap, ◌∙◌}
use mathlib.Core.Bool.{false}
use mathlib.Core.List.{List, ◌++◌}
use native.Mathlib.Omega.{arith}
use native.Mathlib.Nat.{zero-add}
use lib.Dec.{ltb}
use lib.ListN.{length, take, drop, replicate, length-drop, length-replicate, replicate-append-replicate}
use lib.Seq.{take_at, drop_at, take-append-add, take-length, paste}
use borrow.Author.Tests.{ltb-false, eqb-true, not-false}
use Rattle.lemmas.proofs.Choice.{or_left, or_right}
use Rattle.lemmas.proofs.Buffer.{rest_is}
use Rattle.lemmas.proofs.Rules.{most_octets_lem}
use Rattle.lemmas.proofs.Targets.{plen_below}
use Rattle.plain.specs.Octets.{plen_of, prefix_octets, bad_art}

-- the first and the last of so many elements that are all z
first_of : {A : Type 0} (z : A) (k m : ℕ) → take k (replicate (k + m) z) ≡ replicate k z
first_of z k m = rw (← replicate-append-replicate k m z) (take_at (replicate k z) (replicate m z) k (length-replicate k z))

last_of : {A : Type 0} (z : A) (k m : ℕ) → drop k (replicate (k + m) z) ≡ replicate m z
last_of z k m = rw (← replicate-append-replicate k m z) (drop_at (replicate k z) (replicate m z) k (length-replicate k z))

-- octets put over zeros are octets filled up with zeros
filled_up : {A : Type 0} (z : A) (n : ℕ) (part : List A) → length part ≤ n
    → paste (replicate n z) 0 part (length part) ≡ take n (part ++ replicate n z)
filled_up z n part h = go (n - length part) (omega arith) (omega arith)
  where
    go : (m : ℕ) → n ≡ length part + m → n ≡ m + length part → paste (replicate n z) 0 part (length part) ≡ take n (part ++ replicate n z)
    go m e f =
        let l : drop (0 + length part) (replicate n z) ≡ replicate m z = rw (zero-add, e) (last_of z (length part) m) in
        let r : take n (part ++ replicate n z) ≡ part ++ take m (replicate n z) =
        ap (λ k. take k (part ++ replicate n z)) e ∙ take-append-add part (replicate n z) m
        in
        let t : take m (replicate n z) ≡ replicate m z = rw f (first_of z m (length part)) in
        rw (take-length part, l, r, t)

-- how large an ART is that is not bad
pub art_size : (body : List ℕ) → bad_art body ≡ false → (2 ≤ length body) × (length body ≤ 18)
unfolding bad_art
art_size body e =
    let h : 2 ≤ length body = ltb-false (length body) 2 (or_left _ _ e) in
    let k : length body ≡ 2 + prefix_octets (plen_of body) = eqb-true (length body) (2 + prefix_octets (plen_of body)) (not-false _ (or_right (ltb (length body) 2) _ e)) in
    (h, omega (arith, k, most_octets_lem (plen_of body) (plen_below body)))

-- its octets, put over zeros
pub body_put : (body : List ℕ) → bad_art body ≡ false
    → paste (replicate 16 0) 0 (take (length body - 2) (drop 2 body)) (length (take (length body - 2) (drop 2 body)))
    ≡ take 16 (drop 2 body ++ replicate 16 0)
body_put body e = rw (rest_is 2 body) (filled_up 0 16 (drop 2 body) (omega (arith, art_size body e, length-drop 2 body)))
