-- A row of a table, in use or not, asked whether it is live and of a key.
use Rattle.std.specs.Prelude.{ℕ, Bool, false, cond, ◌&&◌, eqb}
use Rattle.std.proofs.Math.Option.{Option, some, none}
use Rattle.plain.specs.Address.{Address}
use Rattle.plain.specs.Given.{Instance, Route}
use Rattle.plain.specs.Lists.{same}
use Rattle.plain.specs.Table.{lasts}
use Rattle.plain.specs.Answers.{as_request, as_reply, request_for, reply_for, route_for}
use Rattle.row.specs.Meaning.{deadline_of}
use Rattle.row.specs.declared.InstanceRow.{InstanceRow}

-- the part of a row that is asked for: it is in use, and of the kind
abbrev pub of_row : {A B : Type 0} → (A → Option B) → Option A → Option B
of_row part none = none
of_row part (some a) = part a

-- it is there, and is so
abbrev pub held : {B : Type 0} → (B → Bool) → Option B → Bool
held p none = false
held p (some b) = p b

-- a row of the kind that is so
unfoldable pub here : {A B : Type 0} → (A → Option B) → (B → Bool) → Option A → Bool
here part p row = held p (of_row part row)

-- "Row key: RPLInstanceID and DODAGID. With a live row ..": a request row of that key, live at t
abbrev pub request_here : ℕ → ℕ → Address → Option Instance → Bool
request_here t instance dodagid = here as_request (request_for t instance dodagid)

-- "Reply row key: RPLInstanceID, DODAGID": a reply row of that key, live at t
abbrev pub reply_here : ℕ → ℕ → Address → Option Instance → Bool
reply_here t instance dodagid = here as_reply (reply_for t instance dodagid)

-- "A live route of the same three": source, destination, RPLInstanceID
abbrev pub route_here : ℕ → Address → Address → ℕ → Option Route → Bool
route_here t source destination instance = here some (route_for t source destination instance)

-- the record of a row of that kind and key, live at t
abbrev pub row_here : ℕ → ℕ → ℕ → Address → InstanceRow → Bool
row_here kind t instance dodagid r =
    cond (eqb r.kind kind) (eqb r.instance instance && same r.dodagid dodagid && lasts t (deadline_of r.endless r.deadline)) false
