-- A start: whether a row of its key is live, and no row of either table stands for it.
use Prim.Native.Nat.{ℕ, ◌≤◌}
use mathlib.Core.Path.{◌≡◌, sym, ap, ◌∙◌}
use mathlib.Core.Bool.{Bool}
use mathlib.Core.List.{List}
use mathlib.Core.Option.{none}
use Rattle.std.specs.Prelude.{None}
use lib.ListN.{length}
use Rattle.plain.specs.Lists.{given}
use Rattle.plain.specs.Address.{Address}
use Rattle.plain.specs.Given.{Settings, RequestRow}
use Rattle.plain.specs.Answers.{view_of, answer_of, live_request}
use Rattle.plain.specs.Request.{Accepted, start_lines}
use Rattle.plain.specs.declared.Target.{Target}
use Rattle.row.specs.Meaning.{request_of}
use Rattle.row.specs.declared.InstanceRow.{InstanceRow}
use Rattle.row.specs.declared.RouteRow.{RouteRow}
use Rattle.own.specs.Settings.{settings_of}
use Rattle.own.specs.declared.Own.{Own}
use Rattle.message.specs.Message.{route_found}
use Rattle.decision.specs.Decision.{Fits, Posts, Stores}
use Rattle.decision.specs.declared.Decided.{Decided}
use Rattle.decision.specs.declared.Post.{Post}
use Rattle.search.specs.Seen.{request_seen}
use Rattle.finish.specs.Gives.{state_of, Ready, Settled}
use Rattle.message.specs.declared.Live.{Live}
use Rattle.start.specs.Start.{start_of, start_answer}
use Rattle.start.specs.declared.Asking.{Asking}
use Rattle.start.proofs.Lines.{lines_of}
use Rattle.finish.proofs.Settles.{settled, ready}

module _ (clock seq t : ℕ) (rows : List InstanceRow) (routes : List RouteRow) (o : Own) (s : Asking)
    (is : Bool) (e : is ≡ given (request_seen clock rows t s.instance o.receiving)) where
  taken_is : is ≡ given (live_request (view_of (state_of clock seq rows routes)) t s.instance (settings_of o).receiving)
  unfolding request_seen
  taken_is = e

  -- the answer of a start
  pub start_answer_lem : (targets : List Target)
      → start_answer (settings_of o) s is ≡ answer_of (start_lines (settings_of o) (view_of (state_of clock seq rows routes)) t (start_of s targets))
  start_answer_lem targets =
      ap (start_answer (settings_of o) s) taken_is ∙ sym (lines_of (settings_of o) (view_of (state_of clock seq rows routes)) t s targets)

-- a start is stored in new rows
module _ (l : Live) (el : l ≡ record { row = None; route = None }) where
  pub new_settled : (x : Settings) (vector : List Address) (acc : Accepted) (d : Decided) (there back : Post)
      → Stores {B = RequestRow} acc none none d
      → Posts x vector acc.sent.forward acc.sent.forward_to there
      → Posts x vector acc.sent.reply acc.sent.reply_to back
      → Settled x vector acc l d there back
  unfolding route_found
  new_settled x vector acc d there back w pf pr = settled None None l el request_of x vector acc d there back w pf pr

  pub new_ready : (x : Settings) (t : ℕ) (rows : List InstanceRow) (routes : List RouteRow) (forward reply : List ℕ) (vector : List Address) (there back : Post)
      → 1236 ≤ length forward → 1236 ≤ length reply → length vector ≡ 16 → Fits x there vector → Fits x back vector
      → Ready x t rows routes forward reply vector there back l
  new_ready x t rows routes forward reply vector there back p q n ff fr =
      ready None None l el x t rows routes forward reply vector there back tt tt tt tt p q n ff fr
