-- A blank target, and lists that are blank past what they hold.
use Rattle.std.specs.Prelude.{ℕ, ◌≡◌, List, drop, replicate}
use Rattle.plain.specs.Address.{zero_address}
use Rattle.plain.specs.Octets.{most_targets}
use Rattle.plain.specs.declared.Target.{Target}

-- a blank target; it is also what is read past the end of a lent slice of targets
abbrev pub no_target : Target
no_target = record { seq = 0; plen = 0; addr = zero_address }

-- A list with room for eight targets that holds n: past those it is blank.
abbrev pub Padded : ℕ → List Target → Type 0
Padded n list = drop n list ≡ drop n (replicate most_targets no_target)
