-- How long a message is.
use Prim.Native.Nat.{ℕ, ◌+◌, ◌≤◌}
use mathlib.Core.Path.{◌≡◌}
use mathlib.Core.Bool.{true}
use Rattle.std.specs.Prelude.{Option, IfSome}
use mathlib.Core.List.{List, ◌++◌, map, flatten}
use native.Mathlib.Omega.{arith}
use lib.ListN.{length, length-append}
use Rattle.plain.specs.Address.{Address}
use Rattle.plain.specs.Octets.{Message, base_octets, configuration_octets, route_octets, art_octets, octets_of}
use Rattle.plain.specs.declared.Target.{Target}
use Rattle.plain.specs.declared.Base.{Base}
use Rattle.plain.specs.declared.Discovery.{Discovery}
use Rattle.writer.specs.Given.{message_from}
use Rattle.writer_option.specs.Sendable.{Sendable, short_prefixes}
use Rattle.lemmas.specs.Each.{WholeVector}
use Rattle.writer_base.proofs.Lengths.{base_length, configuration_le}
use Rattle.writer_option.proofs.Lengths.{route_le}
use Rattle.writer_art.proofs.Lengths.{arts_le}

-- the parts of a message
pub message_length : (m : Message)
    → length (octets_of m)
    ≡ length (base_octets m.base) + length (configuration_octets m.configuration) + length (route_octets m.discovery m.vector) + length (flatten (map art_octets m.targets))
unfolding octets_of
message_length m =
    let b = base_octets m.base in
    let c = configuration_octets m.configuration in
    let r = route_octets m.discovery m.vector in
    let a = flatten (map art_octets m.targets) in
    omega (arith, length-append (b ++ c ++ r) a, length-append (b ++ c) r, length-append b c)

-- the most octets of each part of a message
pub record Sizes (m : Message) : Type 0 where
  pub base : length (base_octets m.base) ≡ 24
  pub configuration : length (configuration_octets m.configuration) ≤ 16
  pub route : length (route_octets m.discovery m.vector) ≤ 257
  pub arts : length (flatten (map art_octets m.targets)) ≤ 160

module _ (b : Base) (configuration : Option (List ℕ)) (d : Discovery) (vector : List Address) (targets : List Target) where
  pub message_sizes : length b.dodagid ≡ 16 → IfSome configuration (λ c. length c ≡ 14) → Sendable d (length vector) → WholeVector vector → length targets ≤ 8
      → short_prefixes targets ≡ true → Sizes (message_from b configuration d vector targets)
  message_sizes eb ec s e ht es = record {
    base = omega (arith, base_length b);
    configuration = configuration_le configuration ec;
    route = route_le d vector s e;
    arts = omega (arith, arts_le targets es);
  }
