-- Messages that can be written, so the claims are not empty: a request with H 1 and a prefix, and a reply with a Configuration and a
-- vector.
use Prim.Native.Nat.{ℕ}
use mathlib.Core.Path.{refl, sym}
use mathlib.Core.Bool.{true, false}
use mathlib.Core.List.{[], ◌∷◌, ◌++◌, flatten}
use mathlib.Core.Option.{some, none}
use native.Mathlib.Omega.{arith}
use lib.ListN.{replicate}
use Rattle.plain.specs.Lists.{all, any, once_after, same}
use Rattle.plain.specs.Address.{Address, unusable, first_bits, keep_bits}
use Rattle.plain.specs.Octets.{Message, bad_configuration, same_target}
use Rattle.lemmas.proofs.Choice.{true_false}
use Rattle.round.specs.Round.{Writable}

-- the address fd00::n
abbrev fd00 : ℕ → Address
fd00 n = 0xfd ∷ replicate 14 0 ++ (n ∷ [])

-- the whole example of 01, "Bench examples", and there "a 20-bit prefix"
abbrev request : Message
request = record {
  base = record { instance = 0x81; version = 0; rank = 0x300; g = false; prf = 0; dodagid = fd00 1 };
  configuration = none;
  discovery = record { reply = false; flag = true; h = true; compr = 0; l = 1; limit = 7; number = 240 };
  vector = [];
  targets =
      record { seq = 0; plen = 0; addr = fd00 9 }
      ∷ record { seq = 0xf1; plen = 20; addr = 0x20 ∷ 0x01 ∷ 0xd0 ∷ replicate 13 0 }
      ∷ [];
}

pub request_writable : Writable request
unfolding unusable all first_bits keep_bits once_after same_target any same flatten
request_writable = record {
  base = record { instance = omega arith; version = omega arith; rank = omega arith; prf = omega arith; dodagid = omega arith; usable = refl };
  configuration = tt;
  discovery = omega arith;
  vector = record { unused = λ e. refl; whole = tt; shared = tt; most = omega arith; room = omega arith };
  targets = record {
    each = (
      record { seq = omega arith; plen = omega arith; whole = omega arith; spare = refl },
      (record { seq = omega arith; plen = omega arith; whole = omega arith; spare = refl }, tt),
    );
    twice = refl;
    least = omega arith;
    most = omega arith;
    one = λ e. true_false (sym e);
    prefix = λ e. true_false (sym e);
  };
}

-- a reply that went through fd00::2 and fd00::3, with Compr 8
abbrev reply : Message
reply = record {
  base = record { instance = 0x82; version = 0; rank = 0x100; g = true; prf = 7; dodagid = fd00 9 };
  configuration = some (0 ∷ 0 ∷ 0 ∷ 0 ∷ 0 ∷ 0 ∷ 1 ∷ 0 ∷ 0 ∷ 0 ∷ 0 ∷ 30 ∷ 0 ∷ 60 ∷ []);
  discovery = record { reply = true; flag = false; h = false; compr = 8; l = 3; limit = 127; number = 63 };
  vector = fd00 2 ∷ fd00 3 ∷ [];
  targets = record { seq = 255; plen = 0; addr = fd00 1 } ∷ [];
}

pub reply_writable : Writable reply
unfolding unusable all first_bits keep_bits once_after any flatten bad_configuration
reply_writable = record {
  base = record { instance = omega arith; version = omega arith; rank = omega arith; prf = omega arith; dodagid = omega arith; usable = refl };
  configuration = (omega arith, refl);
  discovery = record { compr = omega arith; unused = λ e. true_false (sym e); l = omega arith; limit = omega arith; number = omega arith };
  vector = record { unused = λ e. true_false (sym e); whole = (omega arith, (omega arith, tt)); shared = (refl, (refl, tt)); most = omega arith; room = omega arith };
  targets = record {
    each = (record { seq = omega arith; plen = omega arith; whole = omega arith; spare = refl }, tt);
    twice = refl;
    least = omega arith;
    most = omega arith;
    one = λ e. refl;
    prefix = λ e. omega arith;
  };
}
