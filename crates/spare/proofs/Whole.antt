-- What a match is for a whole address, and that spare bits matter neither to a match nor to which targets are the same.
use Prim.Native.Nat.{ℕ, ◌-◌, ◌/◌, ◌^◌, ◌≤◌}
use mathlib.Core.Path.{◌≡◌, refl}
use mathlib.Core.Bool.{Bool, true, false, cond}
use mathlib.Core.List.{List, [], ◌∷◌, ◌++◌, map, map-append}
use native.Mathlib.Nat.{mul-div_cancel}
use native.Mathlib.Omega.{arith}
use lib.Pow.{pow_pos}
use lib.ListN.{length}
use Rattle.plain.specs.Lists.{any, once_after, once, same}
use Rattle.plain.specs.Address.{Address, keep_bits, first_bits}
use Rattle.plain.specs.Octets.{same_target, prefix_bits}
use Rattle.plain.specs.Request.{matches, whole_bits}
use Rattle.plain.specs.declared.Target.{Target}
use Rattle.prefix.proofs.Laws.{first_all}

keep_twice : (k x : ℕ) → keep_bits k (keep_bits k x) ≡ keep_bits k x
unfolding keep_bits
keep_twice k x = rw (mul-div_cancel (x / 2 ^ (8 - k)) (pow_pos (8 - k)))

-- the first bits of the first bits are the first bits
pub first_twice : (k : ℕ) (a : Address) → first_bits k (first_bits k a) ≡ first_bits k a
unfolding first_bits
first_twice k [] = refl
first_twice k (x ∷ xs) = rw (keep_twice k x, first_twice (k - 8) xs)

-- "Length 0 means a whole 16-octet address": such a target matches the address that it equals, and no other
pub matches_address : (t : Target) (a : Address) → t.plen ≡ 0 → length t.addr ≤ 16 → length a ≤ 16 → matches t a ≡ same t.addr a
unfolding matches
matches_address t a e p q = rw (e, first_all 128 t.addr (omega arith), first_all 128 a (omega arith))

-- a target with spare bits zero matches the same addresses
pub matches_whole : (t : Target) (a : Address) → matches (whole_bits t) a ≡ matches t a
unfolding matches whole_bits
matches_whole t a = rw (first_twice (prefix_bits t.plen) t.addr)

-- and is the same target
pub same_whole : (a b : Target) → same_target (whole_bits a) (whole_bits b) ≡ same_target a b
unfolding same_target whole_bits
same_whole a b = rw (first_twice (prefix_bits a.plen) a.addr, first_twice (prefix_bits b.plen) b.addr)

any_whole : (t : Target) (ts : List Target) → any (same_target (whole_bits t)) (map whole_bits ts) ≡ any (same_target t) ts
unfolding any
any_whole t [] = refl
any_whole t (u ∷ us) = rw (same_whole t u, any_whole t us)

cond_whole : (b : Bool) (t : Target) (us vs : List Target)
    → cond b (map whole_bits us) (whole_bits t ∷ map whole_bits vs) ≡ map whole_bits (cond b us (t ∷ vs))
cond_whole true t us vs = refl
cond_whole false t us vs = refl

after_whole : (earlier ts : List Target)
    → once_after same_target (map whole_bits earlier) (map whole_bits ts) ≡ map whole_bits (once_after same_target earlier ts)
unfolding once_after
after_whole earlier [] = refl
after_whole earlier (t ∷ ts) =
    rw (any_whole t earlier, ← map-append whole_bits earlier (t ∷ []), after_whole earlier ts, after_whole (earlier ++ (t ∷ [])) ts)
    (cond_whole (any (same_target t) earlier) t (once_after same_target earlier ts) (once_after same_target (earlier ++ (t ∷ [])) ts))

-- the targets of a start may have their spare bits cleared before repeats are left out, or after
pub once_whole : (ts : List Target) → once same_target (map whole_bits ts) ≡ map whole_bits (once same_target ts)
once_whole ts = after_whole [] ts
