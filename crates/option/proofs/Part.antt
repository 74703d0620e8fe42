-- How long a part of a message is.
use Prim.Native.Nat.{ℕ, ◌-◌, ◌≤◌}
use mathlib.Core.Path.{◌≡◌}
use mathlib.Core.List.{List}
use native.Mathlib.Omega.{arith}
use lib.ListN.{length, length-take, length-drop}
use Rattle.option.specs.Follows.{part_of}

pub length_part : (msg : List ℕ) (start end : ℕ) → end ≤ length msg → length (part_of msg start end) ≡ end - start
length_part msg start end h = simp (length-take, length-drop) (omega arith)
