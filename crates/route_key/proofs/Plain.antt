-- Twins among routes are twins among the live rows of the plain node's table.
use Prim.Native.Nat.{ℕ}
use mathlib.Core.Path.{◌≡◌, refl, sym, ◌∙◌}
use mathlib.Core.Bool.{Bool, true, false, cond, ◌&&◌}
use mathlib.Core.List.{List, map}
use mathlib.Core.Option.{some, none}
use lib.Dec.{eqb}
use borrow.Author.Tests.{eqb-true}
use Rattle.plain.specs.Lists.{any_two, same}
use Rattle.plain.specs.Given.{Route}
use Rattle.plain.specs.Table.{live, live_rows, route_deadline}
use Rattle.plain.specs.Answers.{route_twins}
use Rattle.lemmas.proofs.Choice.{true_false, and_left, and_right}
use Rattle.lemmas.proofs.Same.{same_equal}
use Rattle.lemmas.proofs.Rules.{every_kind}
use Rattle.row.specs.Meaning.{route_of, route_in}
use Rattle.row.specs.declared.RouteRow.{RouteRow}
use Rattle.keyed.specs.Look.{of_row}
use Rattle.keyed.proofs.Laws.{route_part}
use Rattle.first.proofs.Found.{seen}
use Rattle.key.proofs.Any.{two_same}
use Rattle.key.proofs.Plain.{both, two_seen, both_none, cond_self, pair_is}
use Rattle.route_key.specs.Pair.{same_three, twin_routes}

-- what routes of one key have in common
pub three_parts : (a b : RouteRow) → same_three a b ≡ true
    → (a.source ≡ b.source) × (a.destination ≡ b.destination) × (a.instance ≡ b.instance)
unfolding same_three
three_parts a b e =
    let two = same a.source b.source && same a.destination b.destination in
    let r = and_left two (eqb a.instance b.instance) e in (
      same_equal a.source b.source (and_left (same a.source b.source) (same a.destination b.destination) r),
      same_equal a.destination b.destination (and_right (same a.source b.source) (same a.destination b.destination) r),
      eqb-true a.instance b.instance (and_right two (eqb a.instance b.instance) e),
    )

live_route_lem : (t : ℕ) (r : RouteRow) → live route_deadline t (route_of r) ≡ true → r.kind ≡ 1
unfolding route_of
live_route_lem t r = go (eqb r.kind 1) refl
  where
    go : (x : Bool) → eqb r.kind 1 ≡ x → live route_deadline t (cond x (some (route_in r)) none) ≡ true → r.kind ≡ 1
    go true e l = eqb-true r.kind 1 e
    go false e l = true_false (sym l)

abbrev same_route : Route → Route → Bool
same_route a b = same a.source b.source && same a.destination b.destination && eqb a.instance b.instance

module _ (t : ℕ) (a b : RouteRow) where
  both_live_routes : a.kind ≡ 1 → b.kind ≡ 1 → both same_route (of_row some (route_of a)) (of_row some (route_of b)) ≡ cond (same_three a b) true false
  unfolding same_three route_in
  both_live_routes e f =
      rw (route_part a, route_part b, e, f)
      (cond_self (same a.source b.source && same a.destination b.destination && eqb a.instance b.instance))

  route_pair : both same_route (seen route_deadline some t (route_of a)) (seen route_deadline some t (route_of b)) ≡ twin_routes t a b
  route_pair =
      pair_is same_three (λ (r : RouteRow). live route_deadline t (route_of r)) a b
      (λ x y. both same_route (cond x (of_row some (route_of a)) none) (cond y (of_row some (route_of b)) none))
      (λ y. refl) (both_none same_route (of_row some (route_of a))) (λ e f. both_live_routes (live_route_lem t a e) (live_route_lem t b f))

-- ".. or two routes of the same key, both live at the last accepted time"
pub routes_twins : (t : ℕ) (routes : List RouteRow) → any_two (twin_routes t) routes ≡ any_two route_twins (live_rows route_deadline t (map route_of routes))
routes_twins t routes =
    rw (every_kind (live_rows route_deadline t (map route_of routes)))
    (sym (two_seen route_of route_deadline some t same_route 0 routes ∙ two_same _ (twin_routes t) (route_pair t) routes))
