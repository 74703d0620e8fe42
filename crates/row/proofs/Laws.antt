-- What a record that is written means, and the targets of a row.
use Prim.Native.Nat.{ℕ, ◌≤◌}
use mathlib.Core.Path.{◌≡◌, refl, sym, ap, ◌∙◌}
use mathlib.Core.Bool.{Bool, true, false, cond}
use mathlib.Core.List.{List, ◌++◌, append_assoc}
use mathlib.Core.Option.{Option, some, none}
use native.Mathlib.Omega.{arith}
use lib.ListN.{length, take, drop, replicate, length-append, length-take, length-replicate, take-append-drop}
use lib.Seq.{take-append_seam, take-append-le, length-take-le}
use Rattle.std.specs.Prelude.{Some, None}
use Rattle.plain.specs.Given.{RequestRow, ReplyRow, Instance, Route}
use Rattle.plain.specs.Octets.{bit}
use Rattle.plain.specs.Blank.{no_target, Padded}
use Rattle.plain.specs.Table.{Numbered, Change}
use Rattle.plain.specs.Request.{route_change, with_reply_row}
use Rattle.plain.specs.declared.Target.{Target}
use Rattle.lemmas.specs.Written.{over}
use Rattle.row.specs.Meaning.{flag, deadline_of, targets_of, request_of, reply_of, instance_of, route_in, route_of}
use Rattle.row.specs.Change.{with_second, with_route}
use Rattle.row.specs.Record.{endless_of, until_of, request_record, reply_record, route_record}

-- ---- targets

pub length_targets : (count : ℕ) (ts : List Target) → length (targets_of count ts) ≡ count
unfolding targets_of
length_targets count ts =
    omega (
      arith,
      length-take count (ts ++ replicate count no_target),
      length-append ts (replicate count no_target),
      length-replicate count no_target,
    )

pub targets_within : (count : ℕ) (ts : List Target) → count ≤ length ts → targets_of count ts ≡ take count ts
unfolding targets_of
targets_within count ts h = take-append-le count ts (replicate count no_target) h

-- ---- records that are written

pub flag_bit : (b : Bool) → flag (bit b) ≡ b
flag_bit true = refl
flag_bit false = refl

deadline_back : (d : Option ℕ) → deadline_of (endless_of d) (until_of d) ≡ d
unfolding deadline_of
deadline_back none = refl
deadline_back (some d) = refl

targets_back : (ts : List Target) → targets_of (length ts) (over ts (replicate 8 no_target)) ≡ ts
unfolding targets_of
targets_back ts = rw append_assoc (take-append_seam ts (drop (length ts) (replicate 8 no_target) ++ replicate (length ts) no_target))

pub request_back : (r : RequestRow) → instance_of (request_record r) ≡ some (Instance.request r)
unfolding instance_of request_of request_record
request_back r = rw (flag_bit r.s, flag_bit r.h, flag_bit r.replied, deadline_back r.deadline, targets_back r.targets)

pub reply_back : (r : ReplyRow) → instance_of (reply_record r) ≡ some (Instance.reply r)
unfolding instance_of reply_of reply_record
reply_back r = rw (deadline_back r.deadline)

pub route_back : (r : Route) → route_of (route_record r) ≡ some r
unfolding route_of route_in route_record
route_back r = rw (deadline_back r.deadline)

-- a list that is blank past the first `count` is those over blank ones
module _ (count : ℕ) (ts : List Target) (eight : length ts ≡ 8) (h : count ≤ 8) where
  pub length_count : length (take count ts) ≡ count
  length_count = length-take-le count ts (omega arith)

  pub padded_whole : Padded count ts → over (take count ts) (replicate 8 no_target) ≡ ts
  padded_whole p =
      ap (λ k. take count ts ++ drop k (replicate 8 no_target)) length_count
      ∙ ap (λ t. take count ts ++ t) (sym p)
      ∙ take-append-drop count ts

-- ---- what becomes of a table, where a test says whether there is a second row or a route

pub second_if : (change : Change Instance) (b : Bool) (s : ReplyRow) → with_second change (cond b (Some s) None) ≡ with_reply_row change b s
unfolding with_second with_reply_row
second_if change true s = refl
second_if change false s = refl

pub route_if : (found : Option (Numbered Route)) (b : Bool) (r : Route) → with_route found (cond b (Some r) None) ≡ route_change b found r
unfolding with_route route_change
route_if found true r = refl
route_if found false r = refl
