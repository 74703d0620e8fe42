-- What the values that a call is about mean in the rules' terms.
use Rattle.std.specs.Prelude.{ℕ, List, take, Option, Some, None}
use Rattle.std.proofs.Math.Option as rules
use Rattle.std.proofs.Math.Option.{some, none}
use Rattle.lemmas.specs.Optional.{of_option}
use Rattle.plain.specs.Address.{Address}
use Rattle.plain.specs.Given.{Received, RequestRow, ReplyRow, Route}
use Rattle.plain.specs.Table.{Numbered}
use Rattle.plain.specs.Octets.{Message}
use Rattle.row.specs.Meaning.{request_of, reply_of, route_in}
use Rattle.row.specs.declared.InstanceRow.{InstanceRow}
use Rattle.message.specs.declared.Parsed.{Parsed}
use Rattle.message.specs.declared.Link.{Link}
use Rattle.message.specs.declared.Found.{Found}
use Rattle.row.specs.declared.RouteRow.{RouteRow}

-- the message that a base, perhaps a Configuration, an RREQ or RREP and targets are, with its vector
unfoldable pub message_in : Parsed → List Address → Message
message_in p vector = record {
  base = p.base;
  -- "Configuration if present"
  configuration = of_option p.configuration;
  discovery = p.discovery;
  vector = take p.n vector;
  targets = take p.count p.targets;
}

-- "link facts", with the octets that came by the link
abbrev pub received_by : Link → List ℕ → Received
received_by k octets = record {
  octets = octets;
  neighbour = k.neighbour;
  upward = k.upward;
  downward = k.downward;
  increase = k.increase;
  to_group = k.group;
}

-- the number of what was found
abbrev pub number_of : {R : Type 0} → Found R → ℕ
number_of f = f.at

-- something of what was found, with its number, if it is there
abbrev pub numbered : {R A : Type 0} → (R → A) → Option (Found R) → rules.Option (Numbered A)
numbered kind None = none
numbered kind (Some f) = some (record { number = f.at; row = kind f.row })

-- "With a live row": the live row of a key, which is of a kind: a request row or a reply row; and the live route
unfoldable pub row_found : {A : Type 0} → (InstanceRow → A) → Option (Found InstanceRow) → rules.Option (Numbered A)
row_found kind f = numbered kind f

abbrev pub request_found : Option (Found InstanceRow) → rules.Option (Numbered RequestRow)
request_found = row_found request_of

abbrev pub reply_found : Option (Found InstanceRow) → rules.Option (Numbered ReplyRow)
reply_found = row_found reply_of

unfoldable pub route_found : Option (Found RouteRow) → rules.Option (Numbered Route)
route_found f = numbered route_in f
