-- What is known of a deadline that was made here.
use Rattle.std.specs.Prelude.{ℕ, ◌^◌, ◌≤◌, ◌≡◌, Option, IfSome}
use Rattle.std.proofs.Math.Option as rules
use Rattle.lemmas.specs.Optional.{of_option}

-- a deadline that is what is given, none where it is endless, and makes no 2: "a deadline above 2^41"
pub record Means (given : rules.Option ℕ) (d : Option ℕ) : Type 0 where
  pub means : of_option d ≡ given
  pub bounded : IfSome d (λ at. at ≤ 2 ^ 41)
