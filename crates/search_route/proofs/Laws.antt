-- What a search for a route answers is what the rules find.
use Prim.Native.Nat.{ℕ, ◌<◌}
use mathlib.Core.Path.{◌≡◌}
use mathlib.Core.Bool.{true, ◌&&◌}
use mathlib.Core.List.{List}
use lib.Dec.{eqb}
use lib.ListN.{length, get_or}
use Rattle.std.specs.Prelude.{Some}
use Rattle.plain.specs.Lists.{same}
use Rattle.plain.specs.Address.{Address}
use Rattle.plain.specs.Table.{lasts, live, route_deadline}
use Rattle.plain.specs.Answers.{route_for}
use Rattle.lemmas.proofs.Rules.{every_kind}
use Rattle.lemmas.proofs.Choice.{and_right}
use Rattle.row.specs.Meaning.{route_of, no_route}
use Rattle.keyed.proofs.Laws.{route_sort}
use Rattle.row.specs.declared.RouteRow.{RouteRow}
use Rattle.search.proofs.Laws.{Ask}
use Rattle.search_route.specs.Seen.{LiveRoute}

-- ---- what a search hands on

pub live_route_hit : {routes : List RouteRow} {t k : ℕ} (x : RouteRow) → k < length routes
    → live route_deadline t (route_of (get_or routes k no_route)) ≡ true → LiveRoute routes t (Some (record { at = k; row = x }))
live_route_hit x h l = record { within = h; lives = l }

-- ---- a route is asked for

abbrev pub route_ask : (t : ℕ) → Address → Address → ℕ → Ask t
route_ask t source destination instance = record {
  sort = route_sort;
  test = route_for t source destination instance;
  lives = λ b. and_right (same b.source source && same b.destination destination && eqb b.instance instance) (lasts t b.deadline);
  all = λ ns. ns;
  all_are = every_kind;
}
