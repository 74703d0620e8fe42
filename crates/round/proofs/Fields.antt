-- "most significant bit first": the fields of a word are those that it was made of, whatever their widths.
use Prim.Native.Nat.{ℕ, ◌+◌, ◌*◌, ◌/◌, ◌%◌, ◌^◌, ◌<◌}
use mathlib.Core.Path.{◌≡◌, refl, ◌∙◌}
use mathlib.Core.Bool.{Bool, true, false}
use mathlib.Core.List.{List, [], ◌∷◌, ◌++◌}
use native.Mathlib.Omega.{arith}
use native.Mathlib.Nat.{mul_assoc, zero-mod, zero-div, mod-mod, mod-lt, mod-eq_of_lt, mul-add-div_right, mul-add-mod_self_right, mul-le-mul_right}
use lib.Dec.{eqb}
use lib.ListN.{length, take}
use lib.Pow.{pow-add, pow_pos, high}
use Rattle.plain.specs.Octets.{sum, fields, word, bit, word_at, word_octets}

-- the values cut to their widths, 0 where there is none
abbrev pub cut : List ℕ → List ℕ → List ℕ
cut [] vs = []
cut (w ∷ ws) [] = 0 ∷ cut ws []
cut (w ∷ ws) (v ∷ vs) = v % 2 ^ w ∷ cut ws vs

-- each value is below 2 to the power of its width
abbrev pub Fit : List ℕ → List ℕ → Type 0
Fit [] vs = Unit
Fit (w ∷ ws) [] = ⊥
Fit (w ∷ ws) (v ∷ vs) = (v < 2 ^ w) × Fit ws vs

-- a word is below 2 to the power of its width
pub word_lt : (ws vs : List ℕ) → word ws vs < 2 ^ sum ws
unfolding word sum
word_lt [] vs = omega arith
word_lt (w ∷ ws) [] = pow_pos (w + sum ws)
word_lt (w ∷ ws) (v ∷ vs) =
    rw (pow-add 2 w (sum ws))
    (omega (arith, word_lt ws vs, mul-le-mul_right (2 ^ sum ws) (mod-lt v (pow_pos w))))

-- what stands above a word's width is none of its fields
pub fields_above : (ws : List ℕ) (h n : ℕ) → fields ws (h * 2 ^ sum ws + n) ≡ fields ws n
unfolding fields sum
fields_above [] h n = refl
fields_above (w ∷ ws) h n =
    rw (pow-add 2 w (sum ws), ← mul_assoc h (2 ^ w) (2 ^ sum ws), mul-add-div_right (pow_pos (sum ws)) (h * 2 ^ w) n, mul-add-mod_self_right h (2 ^ w) (n / 2 ^ sum ws), fields_above ws (h * 2 ^ w) n)

fields_zero : (ws : List ℕ) → fields ws 0 ≡ cut ws []
unfolding fields
fields_zero [] = refl
fields_zero (w ∷ ws) = rw (zero-div (2 ^ sum ws), zero-mod (2 ^ w), fields_zero ws)

-- the fields of a word are the values that it was made of, each cut to its width
pub fields_word : (ws vs : List ℕ) → fields ws (word ws vs) ≡ cut ws vs
unfolding fields word
fields_word [] vs = refl
fields_word (w ∷ ws) [] = fields_zero (w ∷ ws)
fields_word (w ∷ ws) (v ∷ vs) =
    rw (high (v % 2 ^ w) (sum ws) (word_lt ws vs), mod-mod v (2 ^ w), fields_above ws (v % 2 ^ w) (word ws vs), fields_word ws vs)

cut_fit : (ws vs : List ℕ) → Fit ws vs → cut ws vs ≡ take (length ws) vs
cut_fit [] vs h = refl
cut_fit (w ∷ ws) [] h = absurd h
cut_fit (w ∷ ws) (v ∷ vs) h = rw (mod-eq_of_lt h.0, cut_fit ws vs h.1)

-- values that fit come back as they were
pub fields_fit : (ws vs : List ℕ) → Fit ws vs → fields ws (word ws vs) ≡ take (length ws) vs
fields_fit ws vs h = fields_word ws vs ∙ cut_fit ws vs h

-- a 16-bit word from its two octets
pub word_back : (n : ℕ) (rest : List ℕ) → n < 65536 → word_at (word_octets n ++ rest) 0 ≡ n
word_back n rest h = omega arith

-- a flag as a field
pub bit_lt : (b : Bool) → bit b < 2
bit_lt true = omega arith
bit_lt false = omega arith

pub bit_back : (b : Bool) → eqb (bit b) 1 ≡ b
bit_back true = refl
bit_back false = refl
