-- The order of sequence numbers (01, "Rank and freshness"), and pairing by Delta.
use Prim.Native.Nat.{ℕ, ◌+◌, ◌-◌, ◌<◌}
use mathlib.Core.Path.{◌≡◌, refl}
use mathlib.Core.Bool.{Bool, true, false, cond}
use native.Mathlib.Nat.{add_comm}
use native.Mathlib.Omega.{arith}
use lib.Dec.{eqb, ltb, leb}
use borrow.Author.Tests.{ltb-true, ltb-false, leb-true, leb-false, eqb-true, lt-ltb, le-ltb, le-leb, lt-leb, ne_eqb}
use Rattle.plain.specs.Rank.{window, same_side, low_is_newer, freshness, stepped, plus_delta, minus_delta}
use Rattle.plain.specs.declared.Freshness.{Freshness}
use Rattle.plain.specs.declared.Freshness.TheVariants.{Newer, Older, Equal, NotComparable}

-- the same two numbers asked the other way round
abbrev pub reversed : Freshness → Freshness
reversed Newer = Older
reversed Older = Newer
reversed Equal = Equal
reversed NotComparable = NotComparable

same_side_reversed : (a b : ℕ) → same_side b a ≡ reversed (same_side a b)
same_side_reversed a b = rw (add_comm (b - a) (a - b)) (go (leb (a - b + (b - a)) window) (ltb b a) (ltb a b) refl refl)
  where
    go : (near p q : Bool) → ltb b a ≡ p → ltb a b ≡ q
        → cond near (cond q Newer (cond p Older Equal)) NotComparable
        ≡ reversed (cond near (cond p Newer (cond q Older Equal)) NotComparable)
    go false p q e f = refl
    go true true true e f = absurd (omega (arith, ltb-true b a e, ltb-true a b f))
    go true true false e f = refl
    go true false true e f = refl
    go true false false e f = refl

-- a is newer than b exactly if b is older than a; equal and not comparable are the same both ways
pub freshness_reversed : (a b : ℕ) → freshness b a ≡ reversed (freshness a b)
unfolding freshness
freshness_reversed a b = go (leb 128 a) (leb 128 b) (low_is_newer a b) (low_is_newer b a)
  where
    go : (p q s t : Bool)
        → cond q (cond p (same_side b a) (cond t Older Newer)) (cond p (cond s Newer Older) (same_side b a))
        ≡ reversed (cond p (cond q (same_side a b) (cond s Older Newer)) (cond q (cond t Newer Older) (same_side a b)))
    go true true s t = same_side_reversed a b
    go true false true t = refl
    go true false false t = refl
    go false true s true = refl
    go false true s false = refl
    go false false s t = same_side_reversed a b

-- a number is equal to itself ..
pub freshness_self : (a : ℕ) → freshness a a ≡ Equal
unfolding freshness
freshness_self a =
    let near : leb (a - a + (a - a)) window ≡ true = le-leb (a - a + (a - a)) window (omega arith) in
    let none : ltb a a ≡ false = le-ltb a a (omega arith) in
    rw (near, none) (go (leb 128 a))
  where
    go : (p : Bool) → cond p (cond p Equal (cond (low_is_newer a a) Older Newer)) (cond p (cond (low_is_newer a a) Newer Older) Equal) ≡ Equal
    go true = refl
    go false = refl

same_side_equal : (a b : ℕ) → same_side a b ≡ Equal → a ≡ b
same_side_equal a b h = go (leb (a - b + (b - a)) window) (ltb b a) (ltb a b) refl refl h
  where
    go : (near p q : Bool) → ltb b a ≡ p → ltb a b ≡ q → cond near (cond p Newer (cond q Older Equal)) NotComparable ≡ Equal → a ≡ b
    go false p q e f k = let z : ◌≡◌ {A = ℕ} 0 1 = cc in omega arith
    go true true q e f k = let z : ◌≡◌ {A = ℕ} 0 1 = cc in omega arith
    go true false true e f k = let z : ◌≡◌ {A = ℕ} 0 1 = cc in omega arith
    go true false false e f k = omega (arith, ltb-false b a e, ltb-false a b f)

-- .. and to no other
pub freshness_equal : (a b : ℕ) → freshness a b ≡ Equal → a ≡ b
unfolding freshness
freshness_equal a b h = go (leb 128 a) (leb 128 b) (low_is_newer a b) (low_is_newer b a) h
  where
    go : (p q s t : Bool)
        → cond p (cond q (same_side a b) (cond s Older Newer)) (cond q (cond t Newer Older) (same_side a b)) ≡ Equal → a ≡ b
    go true true s t k = same_side_equal a b k
    go true false true t k = let z : ◌≡◌ {A = ℕ} 0 1 = cc in omega arith
    go true false false t k = let z : ◌≡◌ {A = ℕ} 0 1 = cc in omega arith
    go false true s true k = let z : ◌≡◌ {A = ℕ} 0 1 = cc in omega arith
    go false true s false k = let z : ◌≡◌ {A = ℕ} 0 1 = cc in omega arith
    go false false s t k = same_side_equal a b k

one_more : (a : ℕ) → same_side (a + 1) a ≡ Newer
one_more a =
    let near : leb (a + 1 - a + (a - (a + 1))) window ≡ true = le-leb (a + 1 - a + (a - (a + 1))) window (omega arith) in
    let more : ltb a (a + 1) ≡ true = lt-ltb a (a + 1) (omega arith) in
    rw (near, more)

-- our next number is newer than the last, but for the house rule at 127 ..
pub stepped_newer : (own : ℕ) → own < 256 → (own ≡ 127 → ⊥) → freshness (stepped own) own ≡ Newer
unfolding freshness stepped
stepped_newer own h n = rw (ne_eqb own 127 n) (go (eqb own 255) (leb 128 own) refl refl)
  where
    go : (last high : Bool) → eqb own 255 ≡ last → leb 128 own ≡ high → freshness (cond last 1 (own + 1)) own ≡ Newer
    go true high e f = rw (eqb-true own 255 e)
    go false true e f = rw (le-leb 128 (own + 1) (omega (arith, leb-true 128 own f)), f) (one_more own)
    go false false e f = rw (lt-leb 128 (own + 1) (omega (arith, leb-false 128 own f, n)), f) (one_more own)

-- .. where it is not comparable
pub stepped_127 : freshness (stepped 127) 127 ≡ NotComparable
unfolding freshness stepped
stepped_127 = refl

-- a reply's partner is the request that it answers
pub delta_back : (i d : ℕ) → i < 256 → d < 256 → minus_delta (plus_delta i d) d ≡ i
unfolding plus_delta minus_delta
delta_back i d p q = omega arith
