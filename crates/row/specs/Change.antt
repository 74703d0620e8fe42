-- What becomes of a table where a second row, or a route, is stored or not.
use Rattle.std.specs.Prelude as code
use Rattle.std.specs.Prelude.{true, Some, None}
use Rattle.std.proofs.Math.Option.{Option}
use Rattle.plain.specs.Given.{ReplyRow, Instance, Route}
use Rattle.plain.specs.Table.{Numbered, Change, no_change, put}
use Rattle.plain.specs.Request.{with_reply_row}

-- "a request row before its reply row", where there is a reply row
unfoldable pub with_second : Change Instance → code.Option ReplyRow → Change Instance
with_second change None = change
with_second change (Some s) = with_reply_row change true s

-- a route in the place of the live one, else new, where there is one
unfoldable pub with_route : {B : Type 0} → Option (Numbered B) → code.Option Route → Change Route
with_route found None = no_change
with_route found (Some r) = put found r
