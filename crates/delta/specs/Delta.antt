-- The Delta that the rules see free in a lent table.
use Rattle.std.specs.Prelude.{ℕ, List, []}
use Rattle.std.proofs.Math.Option.{Option}
use Rattle.plain.specs.Address.{Address}
use Rattle.plain.specs.Request.{free_delta}
use Rattle.row.specs.declared.InstanceRow.{InstanceRow}
use Rattle.search.specs.Seen.{seen_at}

-- "Delta is the least of 0..63 for which RPLInstanceID plus Delta .. is not in use by a live reply row with that DODAGID."
unfoldable pub delta_seen : ℕ → List InstanceRow → ℕ → ℕ → Address → Option ℕ
delta_seen clock rows t instance dodagid = free_delta (seen_at clock rows []) t instance dodagid
