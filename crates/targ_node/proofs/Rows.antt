-- The targets of a message.
use mathlib.Core.Path.{◌≡◌}
use mathlib.Core.Bool.{false}
use mathlib.Core.List.{List}
use Rattle.plain.specs.Lists.{any}
use Rattle.plain.specs.Address.{Address}
use Rattle.plain.specs.Given.{Settings}
use Rattle.plain.specs.Request.{matches_us, are_targ_node}
use Rattle.kept.specs.Kept.{list_of}
use Rattle.message.specs.Message.{message_in}
use Rattle.targets.specs.declared.Targets.{Targets}
use Rattle.message.specs.declared.Parsed.{Parsed}

pub named_is : (x : Settings) (p : Parsed) (ts : Targets) → ts ≡ record { over = false; count = p.count; list = p.targets } → (v : List Address)
    → any (matches_us x) (list_of ts) ≡ are_targ_node x (message_in p v)
unfolding message_in
named_is x p ts e v = rw e
