-- The octets before a vector. Contracts inside the crate name them; a public one does not.
use Rattle.std.specs.Prelude.{ℕ, ◌+◌, cond, List, [], ◌∷◌, ◌++◌}
use Rattle.plain.specs.declared.Discovery.{Discovery}
use Rattle.plain.specs.Octets.{bit, word, word_octets, route_bits, number_bits, rreq_type, rrep_type}

-- the first two octets of an RREQ or RREP, as a word
unfoldable pub route_word : Discovery → ℕ
route_word d = word route_bits (bit d.flag ∷ bit d.h ∷ 0 ∷ cond d.h 0 d.compr ∷ d.l ∷ d.limit ∷ [])

-- an RREQ or RREP up to its vector of so many octets
abbrev pub route_head : Discovery → ℕ → List ℕ
route_head d size =
    (cond d.reply rrep_type rreq_type ∷ (size + 3) ∷ word_octets (route_word d)) ++ (word (number_bits d.reply) (d.number ∷ 0 ∷ []) ∷ [])
