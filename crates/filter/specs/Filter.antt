-- The filter that the search for twins goes by. No contract of a public call needs this: of a hash nothing is used but that rows of one key
-- have one.
use Rattle.std.specs.Prelude.{ℕ, ◌*◌, ◌/◌, ◌%◌, ◌^◌, Bool, false, cond, eqb}
use Rattle.std.specs.Int.Bits.{bit_or}
use Rattle.slot.specs.Slot.{class_of}

-- ---- the words

abbrev pub bit_at : ℕ → ℕ
bit_at k = 1 * 2 ^ k % 18446744073709551616

unfoldable pub bits_of : ℕ → ℕ
bits_of h =
    bit_or (bit_or (bit_or (bit_or (bit_at (h / 4294967296 % 64)) (bit_at (h / 274877906944 % 64))) (bit_at (h / 17592186044416 % 64)))
    (bit_at (h / 1125899906842624 % 64))) (bit_at (h / 16384 % 64))

unfoldable pub has_bits : ℕ → ℕ → Bool
has_bits w h = eqb (bit_or w (bits_of h)) w

unfoldable pub maybe_of : Bool → ℕ → ℕ → Bool
maybe_of on w h = cond on (has_bits w h) false

unfoldable pub marked_of : Bool → ℕ → ℕ → ℕ
marked_of on w h = cond on (bit_or w (bits_of h)) w

-- ---- the passes

-- twins of the pass's class
unfoldable pub in_class : {R : Type 0} → (R → ℕ) → ℕ → ℕ → (R → R → Bool) → R → R → Bool
in_class hash mask p twins a b = cond (eqb (class_of mask (hash b)) p) (twins a b) false
