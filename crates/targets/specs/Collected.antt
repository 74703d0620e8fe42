-- Targets that are collected one after the other, in a list with room for eight.
use Rattle.std.specs.Prelude.{ℕ, ◌+◌, ◌≤◌, ◌<◌, ◌≡◌, Bool, true, false, cond, List, ◌∷◌, ◌++◌, ltb, eqb, length, take}
use Rattle.plain.specs.Lists.{once_after}
use Rattle.plain.specs.Octets.{same_target, most_targets}
use Rattle.plain.specs.Blank.{Padded}
use Rattle.plain.specs.declared.Target.{Target}
use Rattle.targets.specs.declared.Targets.{Targets}
use Rattle.targets.specs.declared.Count.{Count}

-- nothing is collected yet
abbrev pub none_yet : Count
none_yet = record { over = false; n = 0 }

-- the targets that are collected in a list
abbrev pub targets_in : List Target → Count → Targets
targets_in list c = record { over = c.over; count = c.n; list = list }

-- What is collected, with those of `rest` that are to come, is `all`, or it is told that `all` are over 8. "A target listed twice .. counts
-- once, at its first place; the 8 are counted after that."
pub record Collected (all rest : List Target) (ts : Targets) : Type 0 where
  pub few : ts.count ≤ most_targets
  pub room : length ts.list ≡ most_targets
  pub many : ts.over ≡ true → most_targets < length all
  pub held : ts.over ≡ false → all ≡ take ts.count ts.list ++ once_after same_target (take ts.count ts.list) rest

-- where a target goes, behind the n that are collected: place 8 is there no more, and one that is listed already goes past that
abbrev pub place_for : Bool → ℕ → ℕ
place_for listed n = cond listed (most_targets + 1) n

-- how many are collected, when the next one went to a place: place 8 tells that there are over 8
abbrev pub counted : Count → ℕ → Count
counted c at =
    cond (ltb at most_targets) (record { over = c.over; n = at + 1 })
    (cond (eqb at most_targets) (record { over = true; n = c.n }) c)

-- The next target is collected, and past those that are collected the list stays blank.
pub record Joined (c : Count) (list : List Target) (t : Target) (r : Count) (after : List Target) : Type 0 where
  pub collected : (all rest : List Target) → Collected all (t ∷ rest) (targets_in list c) → Collected all rest (targets_in after r)
  pub padded : Padded c.n list → Padded r.n after

-- All are collected: they are held, unless they are over 8. Past those that are held the list is blank.
pub record Gathered (all : List Target) (ts : Targets) : Type 0 where
  pub over : ts.over ≡ ltb most_targets (length all)
  pub few : ts.count ≤ most_targets
  pub room : length ts.list ≡ most_targets
  pub held : ts.over ≡ false → take ts.count ts.list ≡ all
  pub padded : Padded ts.count ts.list
