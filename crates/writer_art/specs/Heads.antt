-- The octets before a target. Contracts inside the crate name them; a public one does not.
use Rattle.std.specs.Prelude.{ℕ, ◌+◌, List, [], ◌∷◌}
use Rattle.plain.specs.declared.Target.{Target}
use Rattle.plain.specs.Octets.{word, art_bits, art_type}

-- an ART up to the octets of its target, so many
abbrev pub art_head : Target → ℕ → List ℕ
art_head t size = art_type ∷ (size + 2) ∷ t.seq ∷ word art_bits (0 ∷ t.plen ∷ []) ∷ []
