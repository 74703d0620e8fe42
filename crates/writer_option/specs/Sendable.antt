-- What must hold of a message that is written.
use Rattle.std.specs.Prelude.{ℕ, ◌≤◌, ◌*◌, ◌-◌, ◌≡◌, Bool, false, List}
use Rattle.plain.specs.Lists.{all}
use Rattle.plain.specs.Answers.{short_prefix}
use Rattle.plain.specs.declared.Target.{Target}
use Rattle.plain.specs.declared.Discovery.{Discovery}

-- An RREQ or RREP with n addresses: Compr has four bits, and the length octet holds the length of the body.
pub record Sendable (d : Discovery) (n : ℕ) : Type 0 where
  pub compr : d.compr ≤ 15
  pub addresses : n ≤ 16
  pub octets : d.h ≡ false → n * (16 - d.compr) ≤ 252

-- no target has a Prefix Length over 127
abbrev pub short_prefixes : List Target → Bool
short_prefixes ts = all short_prefix ts
