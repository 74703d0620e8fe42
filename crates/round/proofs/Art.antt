-- "ART, type 0x0D: Dest SeqNo (8), X, Prefix Length (7), target": the body that is written is read back to its target.
use Prim.Native.Nat.{ℕ, ◌+◌}
use mathlib.Core.Path.{◌≡◌, ◌∙◌}
use mathlib.Core.Bool.{false}
use mathlib.Core.List.{List, [], ◌∷◌, ◌++◌}
use native.Mathlib.Omega.{arith}
use lib.ListN.{length, take, replicate, length-take}
use borrow.Author.Tests.{le-ltb, eq-eqb}
use Rattle.plain.specs.Address.{first_bits}
use Rattle.plain.specs.Octets.{word, art_bits, prefix_bits, prefix_octets, plen_of, target_of, bad_art}
use Rattle.plain.specs.declared.Target.{Target}
use Rattle.lemmas.proofs.Rules.{most_octets_lem}
use Rattle.round.specs.Round.{WritableTarget}
use Rattle.round.proofs.Fields.{fields_fit}
use Rattle.round.proofs.Address.{first_filled}

abbrev pub art_body : Target → List ℕ
art_body t = t.seq ∷ word art_bits (0 ∷ t.plen ∷ []) ∷ take (prefix_octets t.plen) t.addr

module _ (t : Target) (w : WritableTarget t) where
  pub plen_back : plen_of (art_body t) ≡ t.plen
  plen_back = rw (fields_fit art_bits (0 ∷ t.plen ∷ []) (omega arith, (w.plen, tt)))

  addr_back : first_bits (prefix_bits t.plen) (take 16 (take (prefix_octets t.plen) t.addr ++ replicate 16 0)) ≡ t.addr
  addr_back =
      rw (← w.whole.long)
      (first_filled (prefix_bits t.plen) (prefix_octets t.plen) 16 t.addr (omega arith) (omega arith) w.whole.octets)
      ∙ w.spare

  pub target_back : target_of (art_body t) ≡ t
  unfolding target_of
  target_back = rw (plen_back, addr_back)

  pub length_art : length (art_body t) ≡ 2 + prefix_octets t.plen
  length_art = omega (arith, length-take (prefix_octets t.plen) t.addr, w.whole.long, most_octets_lem t.plen w.plen)

  pub good_art : bad_art (art_body t) ≡ false
  unfolding bad_art
  good_art =
      rw (le-ltb (length (art_body t)) 2 (omega arith), plen_back, eq-eqb (length (art_body t)) (2 + prefix_octets t.plen) length_art)
