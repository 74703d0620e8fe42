-- The hash of a key, for the filter that the search for twins goes by. Nothing of it is used but that rows of one key have one.
use Rattle.std.specs.Prelude.{ℕ, ◌+◌, ◌*◌, ◌/◌, ◌%◌, get_or}
use Rattle.std.specs.Int.Bits.{bit_xor}
use Rattle.plain.specs.Address.{Address}
use Rattle.row.specs.declared.InstanceRow.{InstanceRow}
use Rattle.row.specs.declared.RouteRow.{RouteRow}

unfoldable pub quad_of : ℕ → ℕ → ℕ → ℕ → ℕ
quad_of a b c d = a + b * 256 + c * 65536 + d * 16777216

unfoldable pub spread_of : ℕ → ℕ → ℕ
spread_of a b = bit_xor (a * 2654435769) (b * 2246822519)

unfoldable pub mix_of : ℕ → ℕ → ℕ → ℕ → ℕ → ℕ
mix_of k a b c d = spread_of (bit_xor (bit_xor a d) k) (bit_xor b c)

unfoldable pub finish_of : ℕ → ℕ
finish_of x = x / 65536 % 4294967296 * 2654435769

-- an address, with a number that tells kinds and places apart
unfoldable pub hash_address : ℕ → Address → ℕ
hash_address k d =
    mix_of k (quad_of (get_or d 0 0) (get_or d 1 0) (get_or d 2 0) (get_or d 3 0)) (quad_of (get_or d 4 0) (get_or d 5 0) (get_or d 6 0) (get_or d 7 0))
    (quad_of (get_or d 8 0) (get_or d 9 0) (get_or d 10 0) (get_or d 11 0)) (quad_of (get_or d 12 0) (get_or d 13 0) (get_or d 14 0) (get_or d 15 0))

abbrev pub hash_row : InstanceRow → ℕ
hash_row r = finish_of (hash_address (r.kind + r.instance * 256) r.dodagid)

abbrev pub hash_route : RouteRow → ℕ
hash_route r = finish_of (bit_xor (hash_address r.instance r.source) (hash_address 0 r.destination / 2048))
