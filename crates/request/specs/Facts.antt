-- The facts of a request by value: plain's `Asked`.
use Rattle.std.specs.Prelude.{◌≤◌, ◌<◌, ◌≡◌, true}
use Rattle.plain.specs.Blank.{Padded}
use Rattle.plain.specs.Request.{Asked}
use Rattle.writer_option.specs.Sendable.{short_prefixes}
use Rattle.kept.specs.Kept.{list_of}
use Rattle.lemmas.specs.Optional.{of_option}
use Rattle.message.specs.Message.{request_found, route_found}
use Rattle.request.specs.declared.RequestFacts.{RequestFacts}

unfoldable pub asked_of : RequestFacts → Asked
asked_of a = record {
  row = request_found a.row;
  route = route_found a.route;
  rank = a.rank;
  standing = a.standing;
  is_targ = a.targ;
  targets = list_of a.targets;
  delta = of_option a.delta;
}

-- The rank and the targets of facts that are no 12, and of any message that was heard, can be stored and sent. Past the targets the list is
-- blank.
pub record Sendable (a : RequestFacts) : Type 0 where
  pub rank : a.rank < 65536
  pub few : a.targets.count ≤ 8
  pub prefixes : short_prefixes (list_of a.targets) ≡ true
  pub padded : Padded a.targets.count a.targets.list

-- they are those of a request, and its targets can be stored and sent
pub record Gathered (asked : Asked) (a : RequestFacts) : Type 0 where
  pub means : asked_of a ≡ asked
  pub few : a.targets.count ≤ 8
  pub prefixes : short_prefixes (list_of a.targets) ≡ true
  pub padded : Padded a.targets.count a.targets.list
