-- Addresses cut and made whole again: dropped octets put back, and prefixes filled up with zeros. Each law is over the length.
use Prim.Native.Nat.{ℕ, zero, suc, ◌-◌, ◌*◌, ◌/◌, ◌%◌, ◌≤◌, ◌<◌}
use mathlib.Core.Path.{◌≡◌, refl, sym, ◌∙◌}
use mathlib.Core.List.{List, [], ◌∷◌, ◌++◌, map, map-map}
use native.Mathlib.Omega.{arith}
use native.Mathlib.Nat.{mul-div_cancel, mul-mod_left}
use lib.ListN.{length, take, replicate, take-append-drop, length-drop, length-map}
use Rattle.plain.specs.Address.{Address, first_bits, elide, restore}
use Rattle.plain.specs.Octets.{elided, restored, address_octets}
use Rattle.lemmas.specs.Each.{Each, Octets}
use Rattle.lemmas.proofs.Rules.{keep_none, elided_length}
use Rattle.lemmas.proofs.Each.{each_map, each_weaken}
use Rattle.round.specs.Round.{Whole}
use Rattle.round.proofs.Lists.{map_same, parts_back}

-- ---- "Vector addresses drop their first Compr octets, shared with the DODAGID."

pub restore_elide : (k : ℕ) (d a : Address) → take k a ≡ take k d → restore k d (elide k a) ≡ a
restore_elide k d a e = rw (← e) (take-append-drop k a)

elided_long : (k : ℕ) (v : List Address) → Each Whole v → Each (λ xs. length xs ≡ address_octets k) (map (elide k) v)
elided_long k v h = each_map Whole (λ xs. length xs ≡ address_octets k) (elide k) (λ a w. length-drop k a ∙ rw w.long) v h

-- the octets of a vector are a whole number of addresses
pub length_elided : (k : ℕ) (v : List Address) → Each Whole v → length (elided k v) ≡ length v * address_octets k
length_elided k v h = elided_length k v (each_weaken Whole (λ (a : Address). length a ≡ 16) (λ a w. w.long) v h)

pub elided_whole : (k : ℕ) (v : List Address) → Each Whole v → length (elided k v) % address_octets k ≡ 0
elided_whole k v h = rw (length_elided k v h) (mul-mod_left (length v) (address_octets k))

pub restored_elided : (k : ℕ) (d : Address) (v : List Address) → k < 16 → Each Whole v → Each (λ (a : Address). take k a ≡ take k d) v
    → restored k d (elided k v) ≡ v
unfolding restored
restored_elided k d v lt h e =
    let n : length (elided k v) / address_octets k ≡ length (map (elide k) v)
    = rw (length_elided k v h, mul-div_cancel (length v) {n = address_octets k} (omega arith)) (sym (length-map v (elide k))) in
    rw (n, parts_back (address_octets k) (map (elide k) v) (elided_long k v h), map-map (restore k d) (elide k) v)
    (map_same (λ a. restore k d (elide k a)) v (each_weaken _ _ (restore_elide k d) v e))

-- ---- "Ceil(length/8) octets, spare bits ignored, stored and sent as zero"

-- The first k bits of an address are those of its first n octets, filled up with zeros, if these octets hold k bits.
pub first_filled : (k n m : ℕ) (a : Address) → k ≤ 8 * n → length a ≤ m → Octets a
    → first_bits k (take (length a) (take n a ++ replicate m 0)) ≡ first_bits k a
unfolding first_bits
first_filled k n m [] p q o = refl
first_filled k n zero (x ∷ a) p q o = absurd (omega arith)
first_filled k (suc n) (suc m) (x ∷ a) p q o = rw (first_filled (k - 8) n (suc m) a (omega arith) (omega arith) o.1)
first_filled k zero (suc m) (x ∷ a) p q o =
    let e : k ≡ 0 = omega arith in
    rw (e, keep_none 0 (omega arith), keep_none x o.0, first_filled (0 - 8) zero m a (omega arith) (omega arith) o.1)
