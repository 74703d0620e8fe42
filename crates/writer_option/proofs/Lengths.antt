-- How long the octets of an RREQ or RREP are.
use Prim.Native.Nat.{ℕ, suc, ◌+◌, ◌≤◌}
use mathlib.Core.Path.{◌≡◌, refl, ap}
use mathlib.Core.Bool.{Bool, true, false}
use mathlib.Core.List.{List, ◌++◌}
use native.Mathlib.Omega.{arith}
use lib.ListN.{length}
use Rattle.plain.specs.Address.{Address}
use Rattle.plain.specs.Octets.{route_body_octets, route_octets, elided}
use Rattle.plain.specs.declared.Discovery.{Discovery}
use Rattle.lemmas.specs.Each.{WholeVector}
use Rattle.lemmas.proofs.Rules.{elided_length}
use Rattle.writer_option.specs.Heads.{route_head, route_word}
use Rattle.writer_option.specs.Sendable.{Sendable}

-- an RREQ or RREP is its head and, with H 0, its vector
pub route_parts : (d : Discovery) (v : List Address) (size : ℕ) → d.h ≡ false → size ≡ length (elided d.compr v)
    → route_octets d v ≡ route_head d size ++ elided d.compr v
unfolding route_octets route_body_octets route_word
route_parts d v size h e =
    let k : suc (suc (suc (length (elided d.compr v)))) ≡ size + 3 = omega arith in
    rw (h, k)

pub route_bare : (d : Discovery) (v : List Address) → d.h ≡ true → route_octets d v ≡ route_head d 0
unfolding route_octets route_body_octets route_word
route_bare d v h = rw h

pub route_le : (d : Discovery) (v : List Address) → Sendable d (length v) → WholeVector v → length (route_octets d v) ≤ 257
route_le d v s e = go d.h refl
  where
    go : (h : Bool) → d.h ≡ h → length (route_octets d v) ≤ 257
    go true h = omega (arith, ap length (route_bare d v h))
    go false h =
        omega (
          arith,
          ap length (route_parts d v (length (elided d.compr v)) h refl),
          elided_length d.compr v e,
          s.octets h,
        )
