-- What a call tells its host, from what the parts of the call give: said once for a message and a start.
use Prim.Native.Nat.{ℕ}
use mathlib.Core.Path.{◌≡◌}
use mathlib.Core.List.{List}
use Rattle.plain.specs.Plain as plain
use Rattle.plain.specs.Tally.{raised}
use Rattle.answer.specs.Answer.{answer_number}
use Rattle.answer.specs.declared.Answer.{Answer}
use Rattle.row.specs.declared.InstanceRow.{InstanceRow}
use Rattle.row.specs.declared.RouteRow.{RouteRow}
use Rattle.finish.specs.Gives.{Gives}
use Rattle.outcome.specs.declared.Outcome.{Outcome}
use Rattle.host.specs.Host.{host_of, HostGives}
use Rattle.host.specs.declared.HostOutcome.{HostOutcome}
use Rattle.host.proofs.Laws.{told}

-- `a` is the answer by which the tally is raised
pub tallied : {res : plain.Result} {rows rows' : List InstanceRow} {routes routes' : List RouteRow} {forward forward' reply reply' counts counts' : List ℕ}
    {r : Outcome} {a : Answer} {h : HostOutcome}
    → Gives res rows rows' routes routes' forward forward' reply reply' r → a ≡ r.answer → counts' ≡ raised (answer_number a) counts → h ≡ host_of r
    → HostGives res rows rows' routes routes' forward forward' reply reply' counts counts' h
tallied given answer counts outcome = told _ _ _ _ _ _ _ _ _ _ _ _ _ given (rw answer at counts) outcome
