-- What the row that was found, and the message, say of targets.
use borrow.Author.Rules.{rules}
use Prim.Native.Nat.{◌≤◌}
use mir.Val.{Val}
use denote.Laws.{Is}
use denote.Struct.Declared.{row}
use Rattle.row.specs.contracts.InstanceRow as instance
use mathlib.Core.Path.{◌≡◌, refl, sym}
use mathlib.Core.Bool.{false}
use mathlib.Core.List.{List, []}
use Rattle.std.specs.Prelude.{Some, None}
use native.Mathlib.Omega.{arith}
use lib.ListN.{length, take}
use Rattle.plain.specs.Request.{row_targets}
use Rattle.row.specs.Meaning.{request_of}
use Rattle.row.proofs.Laws.{targets_within}
use Rattle.kept.specs.Kept.{list_of, Kept}
use Rattle.message.specs.Message.{request_found, row_found}
use Rattle.row.specs.declared.InstanceRow.{InstanceRow}
use Rattle.targets.specs.declared.Targets.{Targets}
use Rattle.message.specs.declared.Found.{Found}
use Rattle.message.specs.declared.Parsed.{Parsed}
use Rattle.rule.specs.Heard.{Heard}

pub targets_found : (f : Found InstanceRow) → f.row.count ≤ 8 → length f.row.targets ≡ 8
    → take f.row.count f.row.targets ≡ row_targets (request_found (Some f))
unfolding row_found request_of
targets_found f h n = sym (targets_within f.row.count f.row.targets (omega arith))

pub none_found : [] ≡ row_targets (request_found None)
unfolding row_found
none_found = refl

-- ---- What the types of the parameters say

pub row_eight : (r : InstanceRow) (vs : List Val) → Is (row instance.the_type) r vs → length r.targets ≡ 8
row_eight r vs g = search rules

-- ---- The targets of a message

pub named_kept : (p : Parsed) (ts : Targets) → ts ≡ record { over = false; count = p.count; list = p.targets } → Heard p → Kept (list_of ts) ts
named_kept p ts e h = rw e (record { held = record { whole = refl; few = h.targets; listed = refl }; padded = h.padded })
