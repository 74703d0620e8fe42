use mathlib.Core.Path.{◌≡◌}
use lib.ListN.{length, drop, take}
use Rattle.plain.specs.Lists.{all}
use Rattle.plain.specs.Answers.{short_prefix}
use Rattle.good.proofs.are_good_targets.Given as goal

-- all that the count admits are as good as those of them that are left at k
abbrev pub invariant-loop-k : goal.invariant-loop-k
invariant-loop-k l =
    (length l.fn.targets ≡ 8) × (all short_prefix (take l.count l.fn.targets) ≡ all short_prefix (drop l.k (take l.count l.fn.targets)))
