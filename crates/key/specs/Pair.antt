-- Two instance rows that are twins. Of these the contracts of the public calls say nothing: they say what the plain node says.
use Rattle.std.specs.Prelude.{ℕ, Bool, false, cond, ◌&&◌, eqb, get_or}
use Rattle.plain.specs.Lists.{same}
use Rattle.plain.specs.Address.{Address}
use Rattle.plain.specs.Table.{live, instance_deadline}
use Rattle.row.specs.Meaning.{instance_of}
use Rattle.row.specs.declared.InstanceRow.{InstanceRow}

-- "two request rows, two reply rows .. of the same key": of one kind, "RPLInstanceID and DODAGID"
unfoldable pub same_key : InstanceRow → InstanceRow → Bool
same_key a b = eqb a.kind b.kind && (eqb a.instance b.instance && same a.dodagid b.dodagid)

-- ".. of the same key, both live at the last accepted time"
unfoldable pub twins_by : {A : Type 0} → (A → A → Bool) → (A → Bool) → A → A → Bool
twins_by key lives a b = cond (key a b) (cond (lives a) (lives b) false) false

abbrev pub twin_rows : ℕ → InstanceRow → InstanceRow → Bool
twin_rows t = twins_by same_key (λ (r : InstanceRow). live instance_deadline t (instance_of r))

-- the last octet of an address, in which addresses differ most: rows of one key have one
abbrev pub ending_of : Address → ℕ
ending_of a = get_or a 15 0
