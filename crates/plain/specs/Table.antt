-- Tables: rows in use or not, live or not, and the one place where it matters how many rows a table has.
use Rattle.std.specs.Prelude.{ℕ, suc, Bool, true, false, cond, List, [], ◌∷◌, eqb, ltb, leb, length}
use Rattle.std.proofs.Math.Option.{Option, some, none}
use Rattle.plain.specs.Given.{Instance, Route}

-- a row and its number
pub record Numbered (A : Type 0) : Type 0 where
  pub number : ℕ
  pub row : A

-- "its deadline is later than the call's time, or it has none"
abbrev pub lasts : ℕ → Option ℕ → Bool
lasts t none = true
lasts t (some deadline) = ltb t deadline

-- What an accepted call does to a table: rows that become other rows, by number, and new rows, in order.
pub record Change (A : Type 0) : Type 0 where
  pub become : List (Numbered A)
  pub new : List A

-- no row becomes another, and none is new
abbrev pub no_change : {A : Type 0} → Change A
no_change = record { become = []; new = [] }

-- a row in the place of the one found, else a new one
abbrev pub put : {A B : Type 0} → Option (Numbered B) → A → Change A
put none r = record { become = []; new = r ∷ [] }
put (some n) r = record { become = record { number = n.number; row = r } ∷ []; new = [] }

-- what row i, so far r, becomes: the row with its number, or r if none has it
unfoldable pub becomes : {A : Type 0} → List (Numbered A) → ℕ → A → A
becomes [] i r = r
becomes (n ∷ ns) i r = cond (eqb n.number i) n.row (becomes ns i r)

-- One table's rows, of which `deadline` tells how long each lasts.
module _ {A : Type 0} (deadline : A → Option ℕ) where
  -- "A row is live at a call if in use and its deadline is later than the call's time, or it has none."
  abbrev pub live : ℕ → Option A → Bool
  live t none = false
  live t (some r) = lasts t (deadline r)

  -- the live rows with their numbers; rows are counted from i
  unfoldable pub live_from : ℕ → ℕ → List (Option A) → List (Numbered A)
  live_from t i [] = []
  live_from t i (none ∷ rows) = live_from t (suc i) rows
  live_from t i (some r ∷ rows) =
      cond (lasts t (deadline r)) (record { number = i; row = r } ∷ live_from t (suc i) rows) (live_from t (suc i) rows)

  -- the live rows of a table, with their numbers
  abbrev pub live_rows : ℕ → List (Option A) → List (Numbered A)
  live_rows t rows = live_from t 0 rows

  -- how many rows are not live
  unfoldable pub spare : ℕ → List (Option A) → ℕ
  spare t [] = 0
  spare t (r ∷ rows) = cond (live t r) (spare t rows) (suc (spare t rows))

  -- 17, "more rows needed than are not live", asked of one table
  abbrev pub has_room : ℕ → Change A → List (Option A) → Bool
  has_room t change rows = leb (length change.new) (spare t rows)

  -- "A new row takes the lowest-numbered row that isn't live": the table from row i on, with the rows that become others and the new
  -- ones put in
  unfoldable pub placed_from : ℕ → List (Numbered A) → List A → ℕ → List (Option A) → List (Option A)
  placed_from t us ns i [] = []
  placed_from t us [] i (none ∷ rows) = none ∷ placed_from t us [] (suc i) rows
  placed_from t us [] i (some r ∷ rows) =
      some (cond (lasts t (deadline r)) (becomes us i r) r) ∷ placed_from t us [] (suc i) rows
  placed_from t us (n ∷ ns) i (none ∷ rows) = some n ∷ placed_from t us ns (suc i) rows
  placed_from t us (n ∷ ns) i (some r ∷ rows) =
      cond (lasts t (deadline r))
      (some (becomes us i r) ∷ placed_from t us (n ∷ ns) (suc i) rows)
      (some n ∷ placed_from t us ns (suc i) rows)

  -- a whole table after a change: "A new row takes the lowest-numbered row that isn't live"
  abbrev pub placed : ℕ → Change A → List (Option A) → List (Option A)
  placed t change rows = placed_from t change.become change.new 0 rows

-- an instance row's deadline, of a request row or a reply row: "deadline from L"
abbrev pub instance_deadline : Instance → Option ℕ
instance_deadline (Instance.request r) = r.deadline
instance_deadline (Instance.reply r) = r.deadline

-- a route's: "A route lasts Default Lifetime times Lifetime Unit seconds"
abbrev pub route_deadline : Route → Option ℕ
route_deadline r = r.deadline
