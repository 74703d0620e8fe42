-- The word and the class of a hash. No contract of a public call needs this: of a hash nothing is used but that rows of one key have one.
use Rattle.std.specs.Prelude.{ℕ, ◌*◌, ◌/◌, ◌%◌, Bool, false, cond, eqb}
use Rattle.std.specs.Int.Bits.{bit_and}

-- ---- the words

-- the word of n, by the low half of the hash
unfoldable pub slot_of : ℕ → ℕ → ℕ
slot_of n h = h % 4294967296 * n / 4294967296

-- ---- the passes

unfoldable pub class_of : ℕ → ℕ → ℕ
class_of mask h = bit_and (h % 65536) mask

-- a row is looked at in a pass where it is live and its hash is of the pass's class
unfoldable pub chosen_of : ℕ → ℕ → Bool → ℕ → Bool
chosen_of mask p live h = cond live (eqb (class_of mask h) p) false
