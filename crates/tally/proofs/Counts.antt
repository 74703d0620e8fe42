-- What a tally counts.
use Rattle.std.proofs.Common.{◌≡◌, ℕ, suc, ◌+◌, ◌%◌, ◌^◌, ◌<◌, Bool, true, false, cond, eqb, ◌≢◌, List, [], ◌∷◌, map, length, get_or, refl, ap, ◌∙◌, arith, length-set, get_or-set_other, get_or-set_same, eqb-true}
use lib.ListN.{get_or-replicate}
use borrow.Author.Tests.{eqb-false}
use Rattle.plain.specs.Lists.{count}
use Rattle.plain.specs.Tally.{answers, cleared, raised, tallied}
use Rattle.answer.specs.Answer.{answer_number}
use Rattle.answer.specs.declared.Answer.{Answer}
use Rattle.tally.specs.Counts.{Counted, Raised, Claim, Raises}
use Rattle.tally.specs.declared.Tally.{Tally}

-- ---- One raise

length_raised : (a : ℕ) (counts : List ℕ) → length (raised a counts) ≡ length counts
unfolding raised
length_raised a counts = length-set counts a _

raised_same : (counts : List ℕ) (a : ℕ) → a < length counts → get_or (raised a counts) a 0 ≡ (get_or counts a 0 + 1) % 2 ^ 32
unfolding raised
raised_same counts a room = get_or-set_same counts a _ 0 room

raised_other : (counts : List ℕ) (a k : ℕ) → k ≢ a → get_or (raised a counts) k 0 ≡ get_or counts k 0
unfolding raised
raised_other counts a k apart = get_or-set_other counts a k _ 0 apart

raised_at : (counts : List ℕ) (a k : ℕ) → k < length counts → get_or counts k 0 < 2 ^ 32
    → get_or (raised a counts) k 0 ≡ (get_or counts k 0 + cond (eqb k a) 1 0) % 2 ^ 32
raised_at counts a k room small = go (eqb k a) refl
  where
    go : (b : Bool) → eqb k a ≡ b → get_or (raised a counts) k 0 ≡ (get_or counts k 0 + cond b 1 0) % 2 ^ 32
    go true e = rw (← eqb-true k a e) (raised_same counts k room)
    go false e = omega (arith, raised_other counts a k (eqb-false k a e))

-- ---- A list of answers

-- a count goes on from where it stands
counted_from : (counts given : List ℕ) (k : ℕ) → k < length counts → get_or counts k 0 < 2 ^ 32
    → get_or (tallied counts given) k 0 ≡ (get_or counts k 0 + count (eqb k) given) % 2 ^ 32
unfolding tallied count
counted_from counts [] k room small = omega arith
counted_from counts (a ∷ more) k room small =
    counted_from (raised a counts) more k (rw (length_raised a counts) room) (omega (arith, raised_at counts a k room small))
    ∙ (ap (λ (x : ℕ). (x + count (eqb k) more) % 2 ^ 32) (raised_at counts a k room small) ∙ sum (get_or counts k 0) (count (eqb k) more) (eqb k a))
  where
    sum : (x n : ℕ) (b : Bool) → ((x + cond b 1 0) % 2 ^ 32 + n) % 2 ^ 32 ≡ (x + cond b (suc n) n) % 2 ^ 32
    sum x n true = omega arith
    sum x n false = omega arith

pub counted : Counted
counted given k room =
    let z : get_or cleared k 0 ≡ 0 = get_or-replicate answers k 0 0 room in
    counted_from cleared given k room (omega (arith, z)) ∙ ap (λ (x : ℕ). (x + count (eqb k) given) % 2 ^ 32) z ∙ omega arith

-- ---- Real raises

raised_by : (t t' : Tally) (given : List Answer) → Raised t given t' → t'.counts ≡ tallied t.counts (map answer_number given)
unfolding tallied
raised_by t t' [] e = ap (λ (u : Tally). u.counts) e
raised_by t t' (a ∷ more) (u, e, es) = raised_by u t' more es ∙ ap (λ (c : List ℕ). tallied c (map answer_number more)) e

pub claim : Claim
claim t t' given clear es k room =
    ap (λ (c : List ℕ). get_or c k 0) (raised_by t t' given es ∙ ap (λ (c : List ℕ). tallied c (map answer_number given)) clear)
    ∙ counted (map answer_number given) k room

pub raises : Raises
raises t [] = (t, refl)
raises t (a ∷ more) =
    let u : Tally = record { counts = raised (answer_number a) t.counts } in
    let rest : (t' : Tally) × Raised u more t' = raises u more in
    (rest.0, (u, refl, rest.1))
