-- The facts, from their parts.
use borrow.Author.Rules.{rules}
use mir.Val.{Val}
use denote.Laws.{Is}
use denote.Struct.Declared.{row}
use Rattle.request.specs.contracts.RequestFacts as facts
use mathlib.Core.Path.{◌≡◌}
use mathlib.Core.Bool.{true, false}
use Rattle.std.specs.Prelude.{Option, ℕ}
use mathlib.Core.List.{List, []}
use lib.ListN.{length, take}
use Rattle.plain.specs.Address.{Address}
use Rattle.plain.specs.Given.{Settings}
use Rattle.plain.specs.Rank.{own_rank}
use Rattle.plain.specs.Request.{are_targ_node, request_standing, targets_kept, asked_with}
use Rattle.plain.specs.Answers.{short_prefix}
use Rattle.writer_option.specs.Sendable.{short_prefixes}
use Rattle.kept.specs.Kept.{list_of, Kept}
use Rattle.lemmas.specs.Optional.{of_option}
use Rattle.message.specs.Message.{message_in, received_by, request_found, route_found}
use Rattle.targets.specs.declared.Targets.{Targets}
use Rattle.request.specs.declared.RequestFacts.{RequestFacts}
use Rattle.message.specs.declared.Found.{Found}
use Rattle.row.specs.declared.InstanceRow.{InstanceRow}
use Rattle.row.specs.declared.RouteRow.{RouteRow}
use Rattle.message.specs.declared.Parsed.{Parsed}
use Rattle.message.specs.declared.Link.{Link}
use Rattle.request.specs.Facts.{asked_of, Gathered}
use Rattle.request_targets.proofs.Kept.{all_kept}

pub facts_eight : (a : RequestFacts) (vs : List Val) → Is (row facts.the_type) a vs → length a.targets.list ≡ 8
facts_eight a vs g = search rules

pub gathered_is : (x : Settings) (k : Link) (p : Parsed) (f : Option (Found InstanceRow)) (g : Option (Found RouteRow)) (d : Option ℕ) (ts : Targets) (a : RequestFacts)
    → short_prefixes (take p.count p.targets) ≡ true
    → a.row ≡ f
    → a.route ≡ g
    → a.delta ≡ d
    → a.rank ≡ own_rank p.base.rank k.increase
    → a.standing ≡ request_standing (request_found f) p.discovery.number a.rank
    → a.targ ≡ are_targ_node x (message_in p [])
    → ts ≡ record { over = false; count = p.count; list = p.targets }
    → Kept (targets_kept x a.standing (request_found f) (list_of ts)) a.targets
    → (v : List Address)
    → Gathered (asked_with x (received_by k []) (message_in p v) (request_found f) (route_found g) (of_option d)) a
unfolding asked_of asked_with message_in
gathered_is x k p f g d ts a short ef eg ed er es et en kept v =
    let held : Kept (targets_kept x a.standing (request_found f) (take p.count p.targets)) a.targets = rw en at kept in
    record {
      means = rw (ef, eg, ed, held.held.listed, et, es, er);
      few = held.held.few;
      prefixes = rw held.held.listed (all_kept short_prefix x a.standing (request_found f) (take p.count p.targets) short);
      padded = held.padded;
    }
