-- How long the octets of an ART are.
use Prim.Native.Nat.{ℕ, suc, ◌+◌, ◌*◌, ◌≤◌, ◌<◌}
use mathlib.Core.Path.{◌≡◌}
use mathlib.Core.Bool.{true}
use mathlib.Core.List.{List, [], ◌∷◌, ◌++◌, map, flatten}
use native.Mathlib.Omega.{arith}
use lib.ListN.{length, get_or, take, length-append, length-take}
use borrow.Author.Tests.{leb-true}
use Rattle.lemmas.proofs.Choice.{and_left, and_right}
use Rattle.plain.specs.Lists.{all}
use Rattle.plain.specs.Octets.{prefix_octets, art_octets}
use Rattle.plain.specs.declared.Target.{Target}
use Rattle.lemmas.proofs.Rules.{most_octets_lem}
use Rattle.lemmas.proofs.Walk.{all_at}
use Rattle.lemmas.proofs.Targets.{target_past}
use Rattle.plain.specs.Answers.{short_prefix}
use Rattle.writer_option.specs.Sendable.{short_prefixes}
use Rattle.writer_art.specs.Heads.{art_head}

-- each target has a Prefix Length that can be sent
pub short_at : (ts : List Target) (i : ℕ) → i < length ts → short_prefixes ts ≡ true → (get_or ts i target_past).plen ≤ 127
short_at ts i h e = leb-true (get_or ts i target_past).plen 127 (all_at short_prefix target_past ts i h e)

-- an ART is its head and so many octets of its target
pub art_parts : (t : Target) (size : ℕ) → size ≡ prefix_octets t.plen → size ≤ length t.addr → art_octets t ≡ art_head t size ++ take size t.addr
unfolding art_octets
art_parts t size e h =
    let k : suc (suc (length (take size t.addr))) ≡ size + 2 = omega (arith, length-take size t.addr) in
    rw (← e, k)

pub art_length : (t : Target) → length (art_octets t) ≡ 4 + length (take (prefix_octets t.plen) t.addr)
unfolding art_octets
art_length t = omega arith

pub art_le : (t : Target) → t.plen ≤ 127 → length (art_octets t) ≤ 20
art_le t h = omega (arith, art_length t, length-take (prefix_octets t.plen) t.addr, most_octets_lem t.plen (omega arith))

pub arts_le : (ts : List Target) → short_prefixes ts ≡ true → length (flatten (map art_octets ts)) ≤ 20 * length ts
unfolding flatten all
arts_le [] e = omega arith
arts_le (t ∷ ts) e =
    omega (
      arith,
      length-append (art_octets t) (flatten (map art_octets ts)),
      art_le t (leb-true t.plen 127 (and_left (short_prefix t) (all short_prefix ts) e)),
      arts_le ts (and_right (short_prefix t) (all short_prefix ts) e),
    )
