-- What the types of values say: the lengths of their arrays, as a parameter's `.good` has them.
use mir.Val.{Val}
use borrow.Author.Rules.{rules}
use denote.Laws.{Is}
use denote.Struct.Declared.{row}
use mathlib.Core.Path.{◌≡◌}
use mathlib.Core.List.{List}
use lib.ListN.{length}
use Rattle.own.specs.contracts.Own as own
use Rattle.own.specs.declared.Own.{Own}
use Rattle.message.specs.contracts.Parsed as parsed
use Rattle.message.specs.declared.Parsed.{Parsed}

pub own_sixteen : (o : Own) (vs : List Val) → Is (row own.the_type) o vs → (length o.receiving ≡ 16) × (length o.sending ≡ 16)
own_sixteen o vs g = (search rules, search rules)

pub parsed_eight : (p : Parsed) (vs : List Val) → Is (row parsed.the_type) p vs → length p.targets ≡ 8
parsed_eight p vs g = search rules
