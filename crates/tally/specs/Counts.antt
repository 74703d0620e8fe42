-- 01, "From a cleared tally, each count is the number of calls so answered, modulo 2^32."
use Rattle.std.specs.Prelude.{◌≡◌, ℕ, ◌<◌, List, [], ◌∷◌, map, slice_index}
use Rattle.plain.specs.Tally.{answers, cleared, raised, tallied, tally_of}
use Rattle.answer.specs.Answer.{answer_number}
use Rattle.answer.specs.declared.Answer.{Answer}
use Rattle.tally.specs.declared.Tally.{Tally}

-- of the rules: after any list of answers
abbrev pub Counted : Type 0
Counted = (given : List ℕ) (k : ℕ) → k < answers → slice_index (tallied cleared given) k ≡ tally_of given k

-- Real raises, one after the other, from the record t to the record t'. Each keeps the promise of `raise`, and nobody else writes the record
-- meanwhile.
abbrev pub Raised : Tally → List Answer → Tally → Type 0
Raised t [] t' = t' ≡ t
Raised t (a ∷ more) t' = (u : Tally) × (u.counts ≡ raised (answer_number a) t.counts) × Raised u more t'

-- of the record that a host lends
abbrev pub Claim : Type 0
Claim =
    (t t' : Tally) (given : List Answer) → t.counts ≡ cleared → Raised t given t'
    → (k : ℕ) → k < answers → slice_index t'.counts k ≡ tally_of (map answer_number given) k

-- there are such raises, of any answers, from any record
abbrev pub Raises : Type 0
Raises = (t : Tally) (given : List Answer) → (t' : Tally) × Raised t given t'
