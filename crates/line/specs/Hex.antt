-- Octets in hexadecimal.
use Rattle.std.specs.Prelude.{ℕ, false, List, [], ◌∷◌, ◌/◌, ◌%◌, flat_map}
use Rattle.std.specs.Fmt.{digit_glyph}

-- the two digits of an octet, 0 to 9 and a to f
unfoldable pub two_digits : ℕ → List ℕ
two_digits x = digit_glyph false (x / 16) ∷ digit_glyph false (x % 16) ∷ []

abbrev pub hex : List ℕ → List ℕ
hex xs = flat_map two_digits xs
