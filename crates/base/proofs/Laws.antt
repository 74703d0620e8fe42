-- The fields of a base object, as its octets are read.
use Prim.Native.Nat.{ℕ, ◌/◌, ◌%◌, ◌<◌}
use mathlib.Core.Path.{◌≡◌}
use mathlib.Core.List.{List}
use native.Mathlib.Omega.{arith}
use lib.Dec.{eqb}
use lib.ListN.{take, drop}
use Rattle.plain.specs.Octets.{octet_at, word_at, base_of, fields, sum}

pub base_is : (msg d : List ℕ) (flags : ℕ) → flags ≡ octet_at msg 4 → flags < 256 → d ≡ take 16 (drop 8 msg)
    → record {
      instance = octet_at msg 0;
      version = octet_at msg 1;
      rank = word_at msg 2;
      g = eqb (flags / 128) 1;
      prf = flags % 8;
      dodagid = d;
    } ≡ base_of msg
unfolding base_of fields sum
base_is msg d flags e h f =
    let a : flags / 128 ≡ flags / 128 % 2 = omega arith in
    let b : flags % 8 ≡ flags / 1 % 8 = omega arith in
    rw (a, b, e, f)
