use Prim.Native.Nat.{◌+◌, ◌≤◌}
use mathlib.Core.Path.{refl, ap, ◌∙◌, ◌≡◌}
use native.Mathlib.Omega.{arith}
use lib.ListN.{length, length-take}
use borrow.Author.Rules.{rules}
use Rattle.lemmas.proofs.Buffer.{written_then}
use Rattle.plain.specs.Octets.{art_octets, prefix_octets}
use Rattle.lemmas.proofs.Rules.{most_octets_lem}
use Rattle.writer_art.proofs.Lengths.{art_parts}
use Rattle.writer_art.proofs.put_art.Goals.{Start}
use Rattle.writer_art.proofs.put_art.Goals as goal

-- how many octets there are
sized : (s : Start)
    → (length s.args.t.addr ≡ 16) × (prefix_octets s.args.t.plen ≤ 16) × (length (art_octets s.args.t) ≡ prefix_octets s.args.t.plen + 4)
sized s =
    let t = s.args.t in
    let k : length t.addr ≡ 16 = search rules in
    let most = most_octets_lem t.plen (omega (arith, s.requires.0)) in
    (k, most, ap length (art_parts t _ refl (omega (arith, most))) ∙ omega (arith, length-take (prefix_octets t.plen) t.addr, most))

pub put_art_head-n-requires : goal.put_art_head-n-requires
put_art_head-n-requires c = let z = sized (goal.at.put_art_head-n-requires c).Start in (omega arith, omega arith)

pub returns : goal.returns
returns c =
    let z = sized (goal.at.returns c).Start in
    let e = c.prefix_octets-size.ensures in
    rw (art_parts c.args.t _ e (omega arith))
    (written_then _ _ _ _ _ _ _ c.put_art_head-n.ensures c.put_octets-m.ensures)
