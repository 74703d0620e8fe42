-- Whether a start is a bad call, and what is held of one that is none.
use Rattle.std.specs.Prelude.{ℕ, ◌≤◌, ◌≡◌, Bool, true, false}
use Rattle.plain.specs.Given.{Start}
use Rattle.plain.specs.Lists.{all}
use Rattle.plain.specs.Octets.{most_targets}
use Rattle.plain.specs.Answers.{short_prefix, bad_start}
use Rattle.plain.specs.Request.{start_targets}
use Rattle.gather.specs.Gathers.{held_in, Gathers}
use Rattle.gather.specs.declared.Gathering.{Gathering}

-- `bad` says whether a start with these targets and these fields is a bad call: "a start with 0 or over 8 targets, a target prefix over
-- 127, L over 3, Compr over 15, RankLimit over 127"
pub record Judged (g : Gathering) (l compr limit : ℕ) (bad : Bool) : Type 0 where
  pub told : (c : Start) → Gathers c.targets g → c.l ≡ l → c.compr ≡ compr → c.limit ≡ limit → bad ≡ bad_start c (start_targets c)

-- What is held of a start that is no bad call: all its targets, of a size that can be written.
pub record Fit (c : Start) (g : Gathering) : Type 0 where
  pub whole : g.targets.over ≡ false
  pub some : 1 ≤ g.targets.count
  pub few : g.targets.count ≤ most_targets
  pub held : held_in g ≡ start_targets c
  pub short : all short_prefix (held_in g) ≡ true
  pub compr : c.compr ≤ 15
