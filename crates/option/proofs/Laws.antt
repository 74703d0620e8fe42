-- What stands at a position of a message.
use Prim.Native.Nat.{ℕ, ◌+◌, ◌-◌, ◌≤◌, ◌<◌}
use mathlib.Core.Path.{◌≡◌}
use mathlib.Core.List.{List, ◌∷◌}
use native.Mathlib.Omega.{arith}
use lib.ListN.{length, get_or, drop, length-drop, drop_of_length-le}
use lib.Seq.{drop-drop}
use borrow.Author.Tests.{ne_eqb, le-leb, lt-leb}
use Rattle.lemmas.proofs.Walk.{left_at}
use Rattle.option.specs.declared.Next.TheVariants.{Body, End, Cut}
use Rattle.option.specs.Follows.{Follows}

-- ---- A position

module _ (msg : List ℕ) (at : ℕ) where
  pub at_end : length msg ≤ at → Follows msg at End
  at_end h = record { reads = λ rest. rw (drop_of_length-le msg {i = at} h); placed = omega arith }

  module _ (h : at < length msg) where
    module _ (k : get_or msg at 0 ≡ 0 → ⊥) where
      pub at_last : length msg ≤ at + 1 → Follows msg at Cut
      at_last l = record {
        reads = λ rest. rw (left_at msg at 0 h, ne_eqb (get_or msg at 0) 0 k, drop_of_length-le msg {i = at + 1} l);
        placed = omega arith;
      }

      module _ (l : at + 1 < length msg) where
        after : drop (at + 1) msg ≡ get_or msg (at + 1) 0 ∷ drop (at + 2) msg
        after = let e : at + 1 + 1 ≡ at + 2 = omega arith in rw (← e) (left_at msg (at + 1) 0 l)

        pub at_cut : length msg - (at + 2) < get_or msg (at + 1) 0 → Follows msg at Cut
        at_cut q = record {
          reads = λ rest. rw (left_at msg at 0 h, ne_eqb (get_or msg at 0) 0 k, after, length-drop (at + 2) msg, lt-leb (get_or msg (at + 1) 0) (length msg - (at + 2)) q);
          placed = omega arith;
        }

        pub at_body : get_or msg (at + 1) 0 ≤ length msg - (at + 2) → get_or msg (at + 1) 0 ≤ 255
            → Follows msg at (Body (get_or msg at 0) (at + 2) (at + 2 + get_or msg (at + 1) 0))
        at_body q b =
            let e : at + 2 + get_or msg (at + 1) 0 - (at + 2) ≡ get_or msg (at + 1) 0 = omega arith in
            record {
              reads = λ rest. rw (left_at msg at 0 h, ne_eqb (get_or msg at 0) 0 k, after, length-drop (at + 2) msg, le-leb (get_or msg (at + 1) 0) (length msg - (at + 2)) q, drop-drop (get_or msg (at + 1) 0) (at + 2) msg, e);
              placed = omega arith;
            }
