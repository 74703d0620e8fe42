-- The part of a message that a vector's octets are.
use Prim.Native.Nat.{ℕ, ◌+◌, ◌-◌, ◌/◌, ◌≤◌}
use mathlib.Core.Path.{◌≡◌, ◌∙◌}
use mathlib.Core.List.{List}
use native.Mathlib.Omega.{arith}
use lib.ListN.{length, take, drop}
use Rattle.option.proofs.Part.{length_part}
use Rattle.reader.specs.Reading.{Bounded}
use Rattle.reader.specs.declared.Reading.{Reading}

pub part_length : (msg : List ℕ) (r : Reading) → Bounded (length msg) r → length (take (r.at + r.size - r.at) (drop r.at msg)) ≡ r.size
part_length msg r b = length_part msg r.at (r.at + r.size) b.within ∙ omega arith

pub addresses_fit : (msg : List ℕ) (r : Reading) → Bounded (length msg) r
    → length (take (r.at + r.size - r.at) (drop r.at msg)) / (16 - r.discovery.compr) ≤ 16
addresses_fit msg r b = rw (part_length msg r b) b.addresses
