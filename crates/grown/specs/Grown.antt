-- How many addresses a vector has with ours.
use Rattle.std.specs.Prelude.{ℕ, ◌+◌, Bool, cond, length}
use Rattle.plain.specs.Given.{Settings}
use Rattle.plain.specs.Request.{own_vector}

-- "With H 0 add our receiving address, then the sending one if different": how many addresses n then are
unfoldable pub grown_count : Settings → Bool → ℕ → ℕ
grown_count x h n = cond h n (n + length (own_vector x))
