-- How long the octets of the base and of the Configuration are.
use Prim.Native.Nat.{ℕ, ◌+◌, ◌≤◌}
use mathlib.Core.Path.{◌≡◌, refl, ap}
use mathlib.Core.List.{List, [], ◌∷◌, ◌++◌}
use mathlib.Core.Option.{some, none}
use native.Mathlib.Omega.{arith}
use lib.ListN.{length}
use Rattle.std.specs.Prelude.{Option, Some, None, IfSome}
use Rattle.lemmas.specs.Optional.{of_option}
use Rattle.plain.specs.Octets.{base_octets, configuration_octets}
use Rattle.plain.specs.declared.Base.{Base}

pub base_length : (b : Base) → length (base_octets b) ≡ 8 + length b.dodagid
unfolding base_octets
base_length b = omega arith

pub configuration_none : configuration_octets none ≡ []
unfolding configuration_octets
configuration_none = refl

pub configuration_some : (n : ℕ) (body : List ℕ) → length body ≡ n → configuration_octets (some body) ≡ (4 ∷ n ∷ []) ++ body
unfolding configuration_octets
configuration_some n body e = rw e

pub configuration_le : (configuration : Option (List ℕ)) → IfSome configuration (λ body. length body ≡ 14) → length (configuration_octets (of_option configuration)) ≤ 16
configuration_le None e = omega (arith, ap length configuration_none)
configuration_le (Some body) e = omega (arith, ap length (configuration_some 14 body e))
