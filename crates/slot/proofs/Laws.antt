-- Each hash is of a class that some pass takes.
use Prim.Native.Nat.{ℕ, ◌≤◌, ◌%◌}
use lib.Bits.{and_le_r}
use Rattle.slot.specs.Slot.{class_of}

pub class_le : (mask h : ℕ) → class_of mask h ≤ mask
unfolding class_of
class_le mask h = and_le_r (h % 65536) mask
