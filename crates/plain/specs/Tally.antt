-- 01, "A separate tally is one record .. eighteen 32-bit counts, one for each answer."
use Rattle.std.specs.Prelude.{ℕ, ◌+◌, ◌%◌, ◌^◌, List, [], ◌∷◌, eqb, get_or, set, replicate}
use Rattle.plain.specs.Lists.{count}

-- how many answers there are
abbrev pub answers : ℕ
answers = 18

-- "a cleared tally": every count 0
abbrev pub cleared : List ℕ
cleared = replicate answers 0

-- the tally after a call: the count of its answer is one more, wrapping
unfoldable pub raised : ℕ → List ℕ → List ℕ
raised answer counts = set counts answer ((get_or counts answer 0 + 1) % 2 ^ 32)

-- after a list of answers
unfoldable pub tallied : List ℕ → List ℕ → List ℕ
tallied counts [] = counts
tallied counts (a ∷ more) = tallied (raised a counts) more

-- "From a cleared tally, each count is the number of calls so answered, modulo 2^32."
abbrev pub tally_of : List ℕ → ℕ → ℕ
tally_of given k = count (eqb k) given % 2 ^ 32
