-- Octets in hexadecimal, one after the other.
use Prim.Native.Nat.{ℕ, ◌<◌, ◌+◌, ◌/◌, ◌%◌}
use mathlib.Core.Path.{◌≡◌, ◌∙◌, ap, sym}
use mathlib.Core.Bool.{false}
use mathlib.Core.List.{List, [], ◌∷◌, ◌++◌}
use lib.ListN.{length, get_or, take}
use native.Mathlib.Omega.{arith}
use Rattle.std.specs.Fmt.{digit_glyph}
use Rattle.std.specs.Str.{IsAscii}
use Rattle.std.proofs.Common.{rules}
use Rattle.std.proofs.lemmas.Str.Ascii.{IsAscii-nil, IsAscii-cons}
use Rattle.std.proofs.lemmas.List.{flat_map_more, take_more}
use Rattle.line.specs.Hex.{two_digits, hex}
use Rattle.line.specs.Targets.{target_text, targets_text}
use Rattle.plain.specs.declared.Target.{Target}

-- an octet's digits are ASCII
digit_ascii : (x : ℕ) → x < 16 → digit_glyph false x < 128
digit_ascii x small = search rules

pub digits_ascii : (x : ℕ) → x < 256 → IsAscii (two_digits x)
unfolding two_digits
digits_ascii x small =
    IsAscii-cons (digit_glyph false (x / 16)) (digit_glyph false (x % 16) ∷ []) (digit_ascii (x / 16) (omega arith))
    (IsAscii-cons (digit_glyph false (x % 16)) [] (digit_ascii (x % 16) (omega arith)) IsAscii-nil)

-- with an octet more
pub hex_more : (xs : List ℕ) (i : ℕ) → i < length xs → hex (take i xs) ++ two_digits (get_or xs i 0) ≡ hex (take (i + 1) xs)
hex_more xs i within = flat_map_more two_digits [] (take i xs) (get_or xs i 0) ∙ sym (ap hex (take_more xs i 0 within))

-- targets with one more
pub targets_more : (ts : List Target) (i : ℕ) (d : Target) → i < length ts
    → targets_text (take i ts) ++ target_text (get_or ts i d) ≡ targets_text (take (i + 1) ts)
targets_more ts i d within = flat_map_more target_text [] (take i ts) (get_or ts i d) ∙ sym (ap targets_text (take_more ts i d within))
