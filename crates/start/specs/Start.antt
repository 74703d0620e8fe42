-- What a start by value means, and what must hold of it.
use Rattle.std.specs.Prelude.{ℕ, ◌≤◌, ◌≡◌, Bool, true, cond, List}
use Rattle.plain.specs.Given as rules
use Rattle.plain.specs.Request.{cannot_elide}
use Rattle.plain.specs.declared.Target.{Target}
use Rattle.writer_option.specs.Sendable.{short_prefixes}
use Rattle.targets.specs.declared.Targets.{Targets}
use Rattle.kept.specs.Kept.{list_of}
use Rattle.start.specs.declared.Asking.{Asking}

-- "A start brings RPLInstanceID, H, Compr, L, RankLimit and targets": `targets` are those that it brings, repeats and all
abbrev pub start_of : Asking → List Target → rules.Start
start_of s targets = record { instance = s.instance; h = s.h; compr = s.compr; l = s.l; limit = s.limit; targets = targets }

-- 10, or "14 if a row of that key is live", or 0
unfoldable pub start_answer : rules.Settings → Asking → Bool → ℕ
start_answer x s taken = cond (cannot_elide x s.h s.compr x.receiving) 10 (cond taken 14 0)

-- What holds of every start that is not 1, so that it can be sent: "over 8 targets, a target prefix over 127, .. Compr over 15".
pub record Sendable (s : Asking) (ts : Targets) : Type 0 where
  pub compr : s.compr ≤ 15
  pub targets : ts.count ≤ 8
  pub prefixes : short_prefixes (list_of ts) ≡ true
