-- Targets by value as the lists of the rules.
use Rattle.std.specs.Prelude.{◌≤◌, ◌≡◌, false, List, [], take}
use Rattle.plain.specs.Blank.{Padded}
use Rattle.plain.specs.Octets.{most_targets}
use Rattle.plain.specs.declared.Target.{Target}
use Rattle.targets.specs.declared.Targets.{Targets}

-- the first `count` of them
abbrev pub list_of : Targets → List Target
list_of ts = take ts.count ts.list

-- They are the targets of `list`, no more than eight. Past them there may be anything, as in a row that a host wrote.
pub record Held (list : List Target) (ts : Targets) : Type 0 where
  pub whole : ts.over ≡ false
  pub few : ts.count ≤ most_targets
  pub listed : list_of ts ≡ list

-- What is kept of some targets: they are those of `list`, and past them there is nothing but blank ones.
pub record Kept (list : List Target) (ts : Targets) : Type 0 where
  pub held : Held list ts
  pub padded : Padded ts.count ts.list

-- Nothing is kept yet.
pub record Nothing (ts : Targets) : Type 0 where
  pub count : ts.count ≡ 0
  pub kept : Kept [] ts
