-- 01, "Answer numbers": what the rules see of a state, the lines of the table, and the two that are asked at every call.
use Rattle.std.specs.Prelude.{ℕ, ◌^◌, Bool, true, cond, not, ◌&&◌, ◌||◌, List, [], ◌∷◌, ◌++◌, eqb, ltb, leb, length}
use Rattle.std.proofs.Math.Option.{Option, some, none}
use Rattle.plain.specs.Lists.{any, all, first_of, any_two, same}
use Rattle.plain.specs.Address.{Address, unusable}
use Rattle.plain.specs.Given.{Settings, Lent, Start, RequestRow, ReplyRow, Instance, Route, State}
use Rattle.plain.specs.Table.{Numbered, lasts, live_rows, instance_deadline, route_deadline}
use Rattle.plain.specs.Octets.{most_targets}
use Rattle.plain.specs.declared.Target.{Target}

-- ---- The table

-- A line: an answer's number, and whether what it says is so.
pub record Line : Type 0 where
  pub number : ℕ
  pub holds : Bool

-- "Each is given exactly when its line holds and no lower number's does": the first line that holds, else 0.
unfoldable pub answer_of : List Line → ℕ
answer_of [] = 0
answer_of (l ∷ ls) = cond l.holds l.number (answer_of ls)

-- ---- What the rules see

-- Clock, own number, and the rows that are live at the last accepted time, with their numbers. How many rows a table has is not seen.
pub record View : Type 0 where
  pub clock : ℕ
  pub own : ℕ
  pub instances : List (Numbered Instance)
  pub routes : List (Numbered Route)

-- what the rules see of a state
abbrev pub view_of : State → View
view_of s = record {
  clock = s.clock;
  own = s.own;
  instances = live_rows instance_deadline s.clock s.instances;
  routes = live_rows route_deadline s.clock s.routes;
}

-- the request row that an instance row is, if it is one
abbrev pub as_request : Instance → Option RequestRow
as_request (Instance.request r) = some r
as_request (Instance.reply r) = none

-- the reply row that it is, if it is one
abbrev pub as_reply : Instance → Option ReplyRow
as_reply (Instance.request r) = none
as_reply (Instance.reply r) = some r

-- a row with its number, if there is one
abbrev pub at_number : {B : Type 0} → ℕ → Option B → List (Numbered B)
at_number i none = []
at_number i (some r) = record { number = i; row = r } ∷ []

-- the rows of a kind among the live rows, with their numbers; `kind` tells what a row is if it is of the kind
unfoldable pub of_kind : {A B : Type 0} → (A → Option B) → List (Numbered A) → List (Numbered B)
of_kind kind [] = []
of_kind kind (n ∷ ns) = at_number n.number (kind n.row) ++ of_kind kind ns

-- the live request rows
abbrev pub requests : List (Numbered Instance) → List (Numbered RequestRow)
requests = of_kind as_request

-- the live reply rows
abbrev pub replies : List (Numbered Instance) → List (Numbered ReplyRow)
replies = of_kind as_reply

-- "Row key: RPLInstanceID and DODAGID." Of a live row at a call's time: those that are live at the clock are seen.
abbrev pub request_for : ℕ → ℕ → Address → RequestRow → Bool
request_for t instance dodagid r = eqb r.instance instance && same r.dodagid dodagid && lasts t r.deadline

-- "Reply row key: RPLInstanceID, DODAGID". Of a live row, as above.
abbrev pub reply_for : ℕ → ℕ → Address → ReplyRow → Bool
reply_for t instance dodagid r = eqb r.instance instance && same r.dodagid dodagid && lasts t r.deadline

-- "A live route of the same three": source, destination, RPLInstanceID
abbrev pub route_for : ℕ → Address → Address → ℕ → Route → Bool
route_for t source destination instance r =
    same r.source source && same r.destination destination && eqb r.instance instance && lasts t r.deadline

-- the live request row of a key at time t, if there is one
abbrev pub live_request : View → ℕ → ℕ → Address → Option (Numbered RequestRow)
live_request v t instance dodagid = first_of (λ (n : Numbered RequestRow). request_for t instance dodagid n.row) (requests v.instances)

-- the live reply row of a key at time t, if there is one
abbrev pub live_reply : View → ℕ → ℕ → Address → Option (Numbered ReplyRow)
live_reply v t instance dodagid = first_of (λ (n : Numbered ReplyRow). reply_for t instance dodagid n.row) (replies v.instances)

-- "A live route of the same three" at time t, if there is one
abbrev pub live_route : View → ℕ → Address → Address → ℕ → Option (Numbered Route)
live_route v t source destination instance = first_of (λ (n : Numbered Route). route_for t source destination instance n.row) v.routes

-- ---- 1, "bad call"

-- "time before the last accepted one or above 2^40; a buffer under 1,236 octets; .. an own address that is link-local, multicast or all
-- zero"
unfoldable pub bad_lent : Settings → ℕ → Lent → Bool
bad_lent x clock c =
    ltb c.time clock
    || ltb (2 ^ 40) c.time
    || ltb c.forward_room 1236
    || ltb c.reply_room 1236
    || unusable x.receiving
    || unusable x.sending

-- "message above 1,236"
unfoldable pub long_message : List ℕ → Bool
long_message octets = ltb 1236 (length octets)

-- "a target prefix over 127": more than the field's seven bits hold
abbrev pub long_prefix : Target → Bool
long_prefix t = ltb 127 t.plen

-- a target prefix of at most 127
abbrev pub short_prefix : Target → Bool
short_prefix t = leb t.plen 127

-- "a start with 0 or over 8 targets, a target prefix over 127, L over 3, Compr over 15, RankLimit over 127". Repeats are left out before
-- targets are counted: `targets` is the list without them.
unfoldable pub bad_start : Start → List Target → Bool
bad_start c targets =
    eqb (length targets) 0
    || ltb most_targets (length targets)
    || any long_prefix c.targets
    || ltb 3 c.l
    || ltb 15 c.compr
    || ltb 127 c.limit

-- ---- 2, a wrong state

-- "a deadline above 2^41"
abbrev pub good_deadline : Option ℕ → Bool
good_deadline none = true
good_deadline (some d) = leb d (2 ^ 41)

-- "a row in use with over 8 targets, a target prefix over 127 or a deadline above 2^41" is not good
unfoldable pub good_instance : Instance → Bool
good_instance (Instance.request r) =
    leb (length r.targets) most_targets && all short_prefix r.targets && good_deadline r.deadline
good_instance (Instance.reply r) = good_deadline r.deadline

-- a route has no targets: "a row in use with .. a deadline above 2^41" is not good
unfoldable pub good_route : Route → Bool
good_route r = good_deadline r.deadline

-- a row is good if it is not in use, or good; each row in use is asked, a dead one too
abbrev pub good_if : {A : Type 0} → (A → Bool) → Option A → Bool
good_if good none = true
good_if good (some r) = good r

-- each row of a table is good
abbrev pub all_good : {A : Type 0} → (A → Bool) → List (Option A) → Bool
all_good good rows = all (good_if good) rows

-- "a row in use with over 8 targets, a target prefix over 127 or a deadline above 2^41" stands in neither table
abbrev pub good_state : State → Bool
good_state s = all_good good_instance s.instances && all_good good_route s.routes

-- "two request rows .. of the same key"
abbrev pub request_twins : Numbered RequestRow → Numbered RequestRow → Bool
request_twins a b = eqb a.row.instance b.row.instance && same a.row.dodagid b.row.dodagid

-- "two reply rows .. of the same key"
abbrev pub reply_twins : Numbered ReplyRow → Numbered ReplyRow → Bool
reply_twins a b = eqb a.row.instance b.row.instance && same a.row.dodagid b.row.dodagid

-- "two routes of the same key": source, destination, RPLInstanceID
abbrev pub route_twins : Numbered Route → Numbered Route → Bool
route_twins a b =
    same a.row.source b.row.source && same a.row.destination b.row.destination && eqb a.row.instance b.row.instance

-- 2: "own number 0; a row in use with ..; two request rows, two reply rows or two routes of the same key, both live at the last accepted
-- time". `good`: no row in use is wrong.
unfoldable pub wrong_state : Bool → View → Bool
wrong_state good v =
    eqb v.own 0
    || not good
    || any_two request_twins (requests v.instances)
    || any_two reply_twins (replies v.instances)
    || any_two route_twins v.routes
