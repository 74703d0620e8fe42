-- The octets before the DODAGID. Contracts inside the crate name them; a public one does not.
use Rattle.std.specs.Prelude.{ℕ, List, [], ◌∷◌, ◌++◌}
use Rattle.plain.specs.declared.Base.{Base}
use Rattle.plain.specs.Octets.{bit, word, word_octets, base_bits}

-- the base up to the DODAGID
abbrev pub base_head : Base → List ℕ
base_head b = (b.instance ∷ b.version ∷ word_octets b.rank) ++ (word base_bits (bit b.g ∷ 0 ∷ 4 ∷ b.prf ∷ []) ∷ 0 ∷ 0 ∷ 0 ∷ [])
