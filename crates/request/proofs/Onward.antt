-- Whether a request goes on, as the code asks it.
use Prim.Native.Nat.{◌≤◌, ◌<◌}
use mathlib.Core.Path.{◌≡◌}
use mathlib.Core.Bool.{false, ◌||◌}
use mathlib.Core.List.{[]}
use native.Mathlib.Omega.{arith}
use lib.Dec.{eqb, ltb}
use lib.ListN.{length, take, length-take}
use borrow.Author.Tests.{lt-ltb, le-ltb}
use Rattle.plain.specs.Rank.{min_hop, integer_part}
use Rattle.plain.specs.Request.{forwards}
use Rattle.lemmas.specs.Optional.{of_option}
use Rattle.message.specs.Message.{message_in}
use Rattle.message.specs.declared.Parsed.{Parsed}
use Rattle.request.specs.Facts.{asked_of}
use Rattle.request.specs.declared.RequestFacts.{RequestFacts}

-- "if targets remain", as the code asks it
module _ (p : Parsed) (a : RequestFacts) (eight : length a.targets.list ≡ 8) where
  pub forwards_some : 0 < a.targets.count
      → eqb p.discovery.limit 0 || ltb (integer_part (min_hop (of_option p.configuration)) a.rank) p.discovery.limit
      ≡ forwards (message_in p []) (asked_of a)
  unfolding forwards message_in asked_of
  forwards_some h = rw (lt-ltb 0 (length (take a.targets.count a.targets.list)) (omega (arith, length-take a.targets.count a.targets.list)))

  pub forwards_none : a.targets.count ≤ 0 → false ≡ forwards (message_in p []) (asked_of a)
  unfolding forwards message_in asked_of
  forwards_none h = rw (le-ltb 0 (length (take a.targets.count a.targets.list)) (omega (arith, length-take a.targets.count a.targets.list)))
