-- One more option of a type noted.
use Prim.Native.Nat.{ℕ}
use mathlib.Core.Path.{◌≡◌, ◌∙◌}
use mathlib.Core.Bool.{false}
use lib.Dec.{eqb}
use mathlib.Core.List.{List, ◌∷◌}
use native.Mathlib.Omega.{arith}
use borrow.Author.Tests.{eq-eqb, ne_eqb, eqb-false}
use Rattle.plain.specs.Lists.{those}
use Rattle.plain.specs.Octets.{Opt}
use Rattle.option.specs.Follows.{option_of, part_of}
use Rattle.scan.specs.declared.Found.{Found}
use Rattle.scan.specs.Seen.{Right, Seen, Noted}

module _ {wanted kind start end : ℕ} {f : Found} {msg : List ℕ} {all rest : List Opt} (w : Right msg kind start end)
    (v : Seen wanted msg all (option_of kind (part_of msg start end) ∷ rest) f) where
  pub seen_other : (kind ≡ wanted → ⊥) → Seen wanted msg all rest f
  unfolding those
  seen_other h = let e = ne_eqb kind wanted h in record {
    few = v.few;
    count = rw e at v.count;
    body = rw e at v.body;
    right = v.right;
  }

  module _ (h : kind ≡ wanted) where
    pub seen_first : f.count ≡ 0 → Seen wanted msg all rest (record { count = 1; start = start; end = end })
    unfolding those
    seen_first z = let e = eq-eqb kind wanted h in record {
      few = omega arith;
      count = (rw (e, z) at v.count) ∙ omega arith;
      body = rw (e, z) at v.body;
      right = λ _. rw (← h) w;
    }

    pub seen_again : (f.count ≡ 0 → ⊥) → Seen wanted msg all rest (record { count = 2; start = f.start; end = f.end })
    unfolding those
    seen_again z = let e = eq-eqb kind wanted h in record {
      few = omega arith;
      count = (rw e at v.count) ∙ omega arith;
      body = rw (e, ne_eqb f.count 0 z) at v.body;
      right = λ _. v.right (omega arith);
    }

-- one that is noted for its own type is noted for the type that is wanted, if that is its own
pub noted_as : {wanted kind start end : ℕ} {f r : Found} → kind ≡ wanted → ((k : ℕ) → Noted k k start end f r) → Noted wanted kind start end f r
noted_as {kind = kind} h n = rw (← h) (n kind)

-- an option has one type
pub apart : (a b : ℕ) → eqb a b ≡ false → (kind : ℕ) → kind ≡ a → kind ≡ b → ⊥
apart a b e kind h k = eqb-false a b e (omega arith)
