-- Rows of one key have one hash.
use Prim.Native.Nat.{ℕ, ◌+◌, ◌*◌, ◌/◌}
use mathlib.Core.Path.{◌≡◌}
use mathlib.Core.Bool.{true}
use lib.Bits.{bit_xor}
use Rattle.plain.specs.Address.{Address}
use Rattle.row.specs.declared.InstanceRow.{InstanceRow}
use Rattle.row.specs.declared.RouteRow.{RouteRow}
use Rattle.key.specs.Pair.{same_key}
use Rattle.key.proofs.Plain.{key_parts}
use Rattle.route_key.specs.Pair.{same_three}
use Rattle.route_key.proofs.Plain.{three_parts}
use Rattle.hash.specs.Hash.{finish_of, hash_address, hash_row, hash_route}

of_three : {A B C : Type 0} (f : A → B → C → ℕ) {a x : A} {b y : B} {c z : C} → (a ≡ x) × (b ≡ y) × (c ≡ z) → f a b c ≡ f x y z
of_three f k = rw (k.0, k.1, k.2)

pub row_hashed : (a b : InstanceRow) → same_key a b ≡ true → hash_row a ≡ hash_row b
row_hashed a b e = of_three (λ (kind instance : ℕ) (d : Address). finish_of (hash_address (kind + instance * 256) d)) (key_parts a b e)

pub route_hashed : (a b : RouteRow) → same_three a b ≡ true → hash_route a ≡ hash_route b
route_hashed a b e =
    of_three (λ (s d : Address) (instance : ℕ). finish_of (bit_xor (hash_address instance s) (hash_address 0 d / 2048))) (three_parts a b e)
