-- What the rules see of lent tables, live at the clock: the live rows of a key at a call's time t.
use Rattle.std.specs.Prelude.{ℕ, ◌<◌, ◌≡◌, Bool, true, List, [], map, length, get_or, IfSome}
use Rattle.std.specs.Prelude as core
use Rattle.std.proofs.Math.Option.{Option}
use Rattle.plain.specs.Lists.{first_of}
use Rattle.plain.specs.Address.{Address}
use Rattle.plain.specs.Given.{RequestRow, ReplyRow}
use Rattle.plain.specs.Table.{Numbered, live, live_rows, instance_deadline, route_deadline}
use Rattle.plain.specs.Answers.{View, requests, live_request, live_reply}
use Rattle.row.specs.Meaning.{instance_of, route_of, no_row}
use Rattle.partner.specs.Partner.{partner_for}
use Rattle.row.specs.declared.InstanceRow.{InstanceRow}
use Rattle.row.specs.declared.RouteRow.{RouteRow}
use Rattle.message.specs.declared.Found.{Found}

-- the view of the tables at a clock; it is asked for rows alone
abbrev pub seen_at : ℕ → List InstanceRow → List RouteRow → View
seen_at clock rows routes = record {
  clock = clock;
  own = 0;
  instances = live_rows instance_deadline clock (map instance_of rows);
  routes = live_rows route_deadline clock (map route_of routes);
}

unfoldable pub request_seen : ℕ → List InstanceRow → ℕ → ℕ → Address → Option (Numbered RequestRow)
request_seen clock rows t instance dodagid = live_request (seen_at clock rows []) t instance dodagid

unfoldable pub reply_seen : ℕ → List InstanceRow → ℕ → ℕ → Address → Option (Numbered ReplyRow)
reply_seen clock rows t instance dodagid = live_reply (seen_at clock rows []) t instance dodagid

unfoldable pub partner_seen : ℕ → List InstanceRow → ℕ → ℕ → Address → Bool → Option (Numbered RequestRow)
partner_seen clock rows t instance dodagid h =
    first_of (λ (n : Numbered RequestRow). partner_for t instance dodagid h n.row) (requests (seen_at clock rows []).instances)

-- where a row was found, it stands there and is live
pub record LiveRow (rows : List InstanceRow) (t : ℕ) (f : core.Option (Found InstanceRow)) : Type 0 where
  pub within : IfSome f (λ x. x.at < length rows)
  pub stands : IfSome f (λ x. x.row ≡ get_or rows x.at no_row)
  pub lives : IfSome f (λ x. live instance_deadline t (instance_of (get_or rows x.at no_row)) ≡ true)
