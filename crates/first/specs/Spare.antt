-- Rows that a new row may take.
use Rattle.std.specs.Prelude.{ℕ, Bool, not}
use Rattle.std.proofs.Math.Option.{Option}
use Rattle.plain.specs.Table.{live}

-- "A new row takes the lowest-numbered row that isn't live": one that is not in use, or is past its deadline
abbrev pub dead : {A : Type 0} → (A → Option ℕ) → ℕ → Option A → Bool
dead deadline t row = not (live deadline t row)
