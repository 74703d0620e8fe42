-- The row that a record of a kind means.
use Prim.Native.Nat.{ℕ}
use mathlib.Core.Path.{◌≡◌, refl}
use mathlib.Core.Bool.{Bool, true, false, cond, ◌&&◌}
use mathlib.Core.Option.{Option, some, none}
use native.Mathlib.Omega.{arith}
use lib.Dec.{eqb}
use borrow.Author.Tests.{eqb-true}
use Rattle.plain.specs.Given.{RequestRow, ReplyRow, Instance, Route}
use Rattle.plain.specs.Lists.{same}
use Rattle.plain.specs.Table.{lasts, instance_deadline, route_deadline}
use Rattle.row.specs.Meaning.{deadline_of, request_of, reply_of, instance_of, route_in, route_of, no_row, no_route}
use Rattle.row.specs.declared.InstanceRow.{InstanceRow}
use Rattle.row.specs.declared.RouteRow.{RouteRow}
use Rattle.keyed.specs.Look.{of_row, held, here, request_here, reply_here, route_here, row_here}
use Rattle.plain.specs.Address.{Address}
use Rattle.plain.specs.Answers.{as_request, as_reply, request_for, reply_for, route_for}

pub request_part : (r : InstanceRow) → of_row as_request (instance_of r) ≡ cond (eqb r.kind 1) (some (request_of r)) none
unfolding instance_of
request_part r = go (eqb r.kind 1) (eqb r.kind 2)
  where
    go : (a b : Bool)
        → of_row as_request (cond a (some (Instance.request (request_of r))) (cond b (some (Instance.reply (reply_of r))) none))
        ≡ cond a (some (request_of r)) none
    go true b = refl
    go false true = refl
    go false false = refl

pub reply_part : (r : InstanceRow) → of_row as_reply (instance_of r) ≡ cond (eqb r.kind 2) (some (reply_of r)) none
unfolding instance_of
reply_part r = go (eqb r.kind 1) refl (eqb r.kind 2) refl
  where
    go : (a : Bool) → eqb r.kind 1 ≡ a → (b : Bool) → eqb r.kind 2 ≡ b
        → of_row as_reply (cond a (some (Instance.request (request_of r))) (cond b (some (Instance.reply (reply_of r))) none))
        ≡ cond b (some (reply_of r)) none
    go true e true f =
        let one : r.kind ≡ 1 = eqb-true r.kind 1 e in
        let two : r.kind ≡ 2 = eqb-true r.kind 2 f in
        absurd (omega arith)
    go true e false f = refl
    go false e true f = refl
    go false e false f = refl

pub route_part : (r : RouteRow) → of_row some (route_of r) ≡ cond (eqb r.kind 1) (some (route_in r)) none
unfolding route_of
route_part r = go (eqb r.kind 1)
  where
    go : (a : Bool) → of_row some (cond a (some (route_in r)) none) ≡ cond a (some (route_in r)) none
    go true = refl
    go false = refl

-- Rows of a kind among the meanings of a table's records.
pub record Sort : Type 1 where
  pub Record : Type 0
  pub Meaning : Type 0
  pub Row : Type 0
  -- what a record means, and when that ends
  pub read : Record → Option Meaning
  pub deadline : Meaning → Option ℕ
  -- the row that it is, if it is of the kind
  pub part : Meaning → Option Row
  pub ends : Row → Option ℕ
  pub ended : (a : Meaning) (b : Row) → part a ≡ some b → deadline a ≡ ends b
  -- what is read past the end of a table
  pub blank : Record
  -- the same told of the record
  pub is : Record → Bool
  pub row : Record → Row
  pub parted : (r : Record) → of_row part (read r) ≡ cond (is r) (some (row r)) none

-- instance rows of one kind
abbrev instance_sort : (Row : Type 0) (part : Instance → Option Row) (ends : Row → Option ℕ) (kind : ℕ) (row : InstanceRow → Row)
    → ((a : Instance) (b : Row) → part a ≡ some b → instance_deadline a ≡ ends b)
    → ((r : InstanceRow) → of_row part (instance_of r) ≡ cond (eqb r.kind kind) (some (row r)) none) → Sort
instance_sort Row part ends kind row ended parted = record {
  Record = InstanceRow;
  Meaning = Instance;
  Row = Row;
  read = instance_of;
  deadline = instance_deadline;
  part = part;
  ends = ends;
  ended = ended;
  blank = no_row;
  is = λ r. eqb r.kind kind;
  row = row;
  parted = parted;
}

-- a row of a kind ends when what the record means does
pub kind_ended : (a : Instance) → ((b : RequestRow) → as_request a ≡ some b → instance_deadline a ≡ b.deadline)
    × ((b : ReplyRow) → as_reply a ≡ some b → instance_deadline a ≡ b.deadline)
kind_ended (Instance.request r) = (λ b e. cc, λ b e. cc)
kind_ended (Instance.reply r) = (λ b e. cc, λ b e. cc)

abbrev pub request_sort : Sort
request_sort = instance_sort RequestRow as_request (λ b. b.deadline) 1 request_of (λ a. (kind_ended a).0) request_part

abbrev pub reply_sort : Sort
reply_sort = instance_sort ReplyRow as_reply (λ b. b.deadline) 2 reply_of (λ a. (kind_ended a).1) reply_part

pub route_ended : (a b : Route) → ◌≡◌ {A = Option Route} (some a) (some b) → route_deadline a ≡ route_deadline b
route_ended a b e = cc

abbrev pub route_sort : Sort
route_sort = record {
  Record = RouteRow;
  Meaning = Route;
  Row = Route;
  read = route_of;
  deadline = route_deadline;
  part = some;
  ends = route_deadline;
  ended = route_ended;
  blank = no_route;
  is = λ r. eqb r.kind 1;
  row = route_in;
  parted = route_part;
}

-- a record passes a test that is asked of its kind
module _ (S : Sort) (p : S.Row → Bool) (r : S.Record) where
  pub sort_here : here S.part p (S.read r) ≡ cond (S.is r) (p (S.row r)) false
  unfolding here
  sort_here = rw (S.parted r) (go (S.is r))
    where
      go : (k : Bool) → held p (cond k (some (S.row r)) none) ≡ cond k (p (S.row r)) false
      go true = refl
      go false = refl

-- a row of that key, told of the record
module _ (t instance : ℕ) (dodagid : Address) (r : InstanceRow) where
  pub request_is : request_here t instance dodagid (instance_of r) ≡ row_here 1 t instance dodagid r
  unfolding request_of
  request_is = sort_here request_sort (request_for t instance dodagid) r

  pub reply_is : reply_here t instance dodagid (instance_of r) ≡ row_here 2 t instance dodagid r
  unfolding reply_of
  reply_is = sort_here reply_sort (reply_for t instance dodagid) r

-- a route of those three, told of the record
pub route_is : (t : ℕ) (source destination : Address) (instance : ℕ) (r : RouteRow)
    → route_here t source destination instance (route_of r) ≡ cond (eqb r.kind 1) (same r.source source && same r.destination destination && eqb r.instance instance && lasts t (deadline_of r.endless r.deadline)) false
unfolding route_in
route_is t source destination instance r = sort_here route_sort (route_for t source destination instance) r
