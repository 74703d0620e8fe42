-- What is known of a rank that is not refused.
use Prim.Native.Nat.{ℕ, ◌<◌, ◌≤◌}
use mathlib.Core.Path.{◌≡◌}
use mathlib.Core.Bool.{Bool, false, ◌||◌}
use lib.Dec.{ltb, leb}
use borrow.Author.Tests.{ltb-false, leb-false}
use Rattle.lemmas.proofs.Choice.{or_left, or_right}
use Rattle.plain.specs.Rank.{integer_part, over_limit, own_rank, rank_refused}

module _ (step advertised increase limit : ℕ) (isEnd : Bool) (admitted : rank_refused step advertised increase limit isEnd ≡ false) where
  before_limit : ltb increase step || leb 65535 (own_rank advertised increase) ≡ false
  unfolding rank_refused
  before_limit = or_left (ltb increase step || leb 65535 (own_rank advertised increase)) _ admitted

  -- the increase is MinHopRankIncrease at least
  pub increase_enough : step ≤ increase
  increase_enough = ltb-false increase step (or_left (ltb increase step) _ before_limit)

  -- our own rank fits 16 bits, and is not the infinite rank
  pub own_fits : own_rank advertised increase < 65535
  own_fits = leb-false 65535 (own_rank advertised increase) (or_right (ltb increase step) _ before_limit)

  -- the ranks are not over the limit
  pub under_limit : over_limit limit (integer_part step advertised) (integer_part step (own_rank advertised increase)) isEnd ≡ false
  unfolding rank_refused
  under_limit = or_right (ltb increase step || leb 65535 (own_rank advertised increase)) _ admitted
