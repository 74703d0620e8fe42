-- Two routes that are twins. Of these the contracts of the public calls say nothing: they say what the plain node says.
use Rattle.std.specs.Prelude.{ℕ, Bool, ◌&&◌, eqb}
use Rattle.plain.specs.Lists.{same}
use Rattle.plain.specs.Table.{live, route_deadline}
use Rattle.row.specs.Meaning.{route_of}
use Rattle.row.specs.declared.RouteRow.{RouteRow}
use Rattle.key.specs.Pair.{twins_by}

-- ".. or two routes of the same key": source, destination, RPLInstanceID
unfoldable pub same_three : RouteRow → RouteRow → Bool
same_three a b = same a.source b.source && same a.destination b.destination && eqb a.instance b.instance

abbrev pub twin_routes : ℕ → RouteRow → RouteRow → Bool
twin_routes t = twins_by same_three (λ (r : RouteRow). live route_deadline t (route_of r))
