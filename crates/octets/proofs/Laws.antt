-- Octets put over others.
use Prim.Native.Nat.{ℕ, ◌+◌, ◌≤◌}
use mathlib.Core.Path.{◌≡◌}
use mathlib.Core.List.{List, ◌++◌, append-nil}
use lib.ListN.{length, take, drop_of_length-le}
use lib.Seq.{take-length, paste}

-- up to the end
pub over_end : (d part : List ℕ) (at : ℕ) → length d ≤ at + length part → paste d at part (length part) ≡ take at d ++ part
over_end d part at h = rw (take-length part, drop_of_length-le d {i = at + length part} h, append-nil)
