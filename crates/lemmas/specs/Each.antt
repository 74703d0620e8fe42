-- What holds of each element of a list.
use Rattle.std.specs.Prelude.{ℕ, ◌<◌, ◌≡◌, List, [], ◌∷◌, length}
use Rattle.plain.specs.Address.{Address}

-- each element is so
abbrev pub Each : {A : Type 0} → (A → Type 0) → List A → Type 0
Each P [] = Unit {0}
Each P (x ∷ xs) = P x × Each P xs

-- each address of a vector is whole: "Sixteen-octet arrays by value rebuild and compare full addresses"
abbrev pub WholeVector : List Address → Type 0
WholeVector v = Each (λ (a : Address). length a ≡ 16) v

-- each number is below 256
abbrev pub Octets : List ℕ → Type 0
Octets xs = Each (λ x. x < 256) xs
