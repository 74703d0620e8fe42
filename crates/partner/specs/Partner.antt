-- A row that is the partner of a reply.
use Rattle.std.specs.Prelude.{ℕ, Bool, ◌&&◌}
use Rattle.std.specs.Bool.{beq}
use Rattle.std.proofs.Math.Option.{Option}
use Rattle.plain.specs.Address.{Address}
use Rattle.plain.specs.Given.{RequestRow, Instance}
use Rattle.plain.specs.Answers.{as_request, request_for}
use Rattle.keyed.specs.Look.{here}

-- 8: "a live partner request row of the same H", one row of a table
abbrev pub partner_for : ℕ → ℕ → Address → Bool → RequestRow → Bool
partner_for t instance dodagid h r = request_for t instance dodagid r && beq r.h h

abbrev pub partner_here : ℕ → ℕ → Address → Bool → Option Instance → Bool
partner_here t instance dodagid h = here as_request (partner_for t instance dodagid h)
