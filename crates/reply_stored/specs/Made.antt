-- The route that a reply makes.
use Rattle.std.specs.Prelude.{ℕ}
use Rattle.plain.specs.Given.{Received, Route}
use Rattle.plain.specs.Octets.{Message}
use Rattle.plain.specs.Request.{route_row}
use Rattle.plain.specs.Reply.{orig_node, dest_seq, partner_number}

-- the route that a reply makes with H 1
unfoldable pub reply_route : ℕ → Received → Message → Route
reply_route t c m = route_row t (orig_node m) m.base.dodagid (partner_number m) c.neighbour (dest_seq m) m.configuration
