-- What 16 leaves.
use Rattle.std.specs.Prelude.{ℕ, ◌≤◌, ◌*◌, ◌-◌, ◌≡◌, Bool, false, List, length}
use Rattle.plain.specs.Address.{Address}
use Rattle.plain.specs.Given.{Settings}
use Rattle.plain.specs.Request.{grown}

-- The message's vector has room for ours, where they are added: 16 is not answered.
pub record Roomy (x : Settings) (h : Bool) (compr : ℕ) (vector : List Address) : Type 0 where
  pub addresses : length (grown x h vector) ≤ 16
  pub octets : h ≡ false → length (grown x h vector) * (16 - compr) ≤ 252
