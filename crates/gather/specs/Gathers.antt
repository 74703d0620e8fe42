-- The targets of a start of our own discovery, gathered.
use Rattle.std.specs.Prelude.{◌≤◌, ◌≡◌, false, List, map, ltb, length, take}
use Rattle.plain.specs.Lists.{any, once}
use Rattle.plain.specs.Octets.{same_target, most_targets}
use Rattle.plain.specs.Answers.{long_prefix}
use Rattle.plain.specs.Blank.{Padded}
use Rattle.plain.specs.Request.{whole_bits}
use Rattle.plain.specs.declared.Target.{Target}
use Rattle.gather.specs.declared.Gathering.{Gathering}

-- the first `count` of them
abbrev pub held_in : Gathering → List Target
held_in g = take g.targets.count g.targets.list

-- What the targets `ts` that are handed in come to: "A target listed twice in a request or start .. counts once, at its first place; the 8
-- are counted after that." They are held, with spare bits zero, unless they are over 8. Past those that are held the list is blank.
pub record Gathers (ts : List Target) (g : Gathering) : Type 0 where
  pub long : g.long ≡ any long_prefix ts
  pub over : g.targets.over ≡ ltb most_targets (length (map whole_bits (once same_target ts)))
  pub few : g.targets.count ≤ most_targets
  pub room : length g.targets.list ≡ most_targets
  pub held : g.targets.over ≡ false → held_in g ≡ map whole_bits (once same_target ts)
  pub padded : Padded g.targets.count g.targets.list
