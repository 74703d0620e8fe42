-- "RFC 6550, 6.3.1": the base that is written is read back, whatever follows it.
use Prim.Native.Nat.{ℕ}
use mathlib.Core.Path.{◌≡◌}
use mathlib.Core.List.{List, [], ◌∷◌, ◌++◌}
use native.Mathlib.Omega.{arith}
use lib.Dec.{eqb}
use lib.ListN.{length, get_or, take, drop}
use lib.Seq.{take_at}
use Rattle.plain.specs.Octets.{fields, bit, base_bits, octet_at, word_at, mop_of, base_of, base_octets}
use Rattle.plain.specs.declared.Base.{Base}
use Rattle.round.specs.Round.{WritableBase}
use Rattle.round.proofs.Fields.{fields_fit, word_back, bit_lt, bit_back}

pub length_base : (b : Base) → WritableBase b → length (base_octets b) ≡ 24
unfolding base_octets
length_base b w = omega (arith, w.dodagid.long)

module _ (b : Base) (w : WritableBase b) (rest : List ℕ) where
  base_fields : fields base_bits (octet_at (base_octets b ++ rest) 4) ≡ bit b.g ∷ 0 ∷ 4 ∷ b.prf ∷ []
  unfolding base_octets
  base_fields = fields_fit base_bits (bit b.g ∷ 0 ∷ 4 ∷ b.prf ∷ []) (bit_lt b.g, (omega arith, (omega arith, (w.prf, tt))))

  pub mop_back : mop_of (base_octets b ++ rest) ≡ 4
  mop_back = rw base_fields

  pub base_back : base_of (base_octets b ++ rest) ≡ b
  unfolding base_of base_octets
  base_back = λ i. record {
    instance = b.instance;
    version = b.version;
    rank = rank_back i;
    g = g_back i;
    prf = prf_back i;
    dodagid = dodagid_back i;
  }
    where
      rank_back : word_at (base_octets b ++ rest) 2 ≡ b.rank
      rank_back = unfold base_octets in word_back b.rank [] w.rank

      g_back : eqb (get_or (fields base_bits (octet_at (base_octets b ++ rest) 4)) 0 0) 1 ≡ b.g
      g_back = rw base_fields (bit_back b.g)

      prf_back : get_or (fields base_bits (octet_at (base_octets b ++ rest) 4)) 3 0 ≡ b.prf
      prf_back = rw base_fields

      dodagid_back : take 16 (drop 8 (base_octets b ++ rest)) ≡ b.dodagid
      dodagid_back = unfold base_octets in take_at b.dodagid rest 16 w.dodagid.long
