-- What a call of the node gives is what it gives a host.
use mathlib.Core.Path.{◌≡◌, ◌∙◌, ap}
use Prim.Native.Nat.{ℕ}
use mathlib.Core.List.{List}
use Rattle.plain.specs.Plain as plain
use Rattle.plain.specs.Tally.{raised}
use Rattle.answer.specs.Answer.{answer_number}
use Rattle.row.specs.declared.InstanceRow.{InstanceRow}
use Rattle.row.specs.declared.RouteRow.{RouteRow}
use Rattle.finish.specs.Gives.{Gives}
use Rattle.outcome.specs.declared.Outcome.{Outcome}
use Rattle.host.specs.Host.{way_number, neighbour_in, host_of, HostGives}
use Rattle.host.specs.declared.HostOutcome.{HostOutcome}

pub told : (res : plain.Result) (rows rows' : List InstanceRow) (routes routes' : List RouteRow) (forward forward' reply reply' counts counts' : List ℕ) (r : Outcome) (h : HostOutcome)
    → Gives res rows rows' routes routes' forward forward' reply reply' r → counts' ≡ raised (answer_number r.answer) counts → h ≡ host_of r
    → HostGives res rows rows' routes routes' forward forward' reply reply' counts counts' h
told res rows rows' routes routes' forward forward' reply reply' counts counts' r h g t e = rw e (record {
  answer = g.answer;
  state = g.state;
  forward_length = g.forward_length;
  reply_length = g.reply_length;
  forward_way = ap way_number g.forward_to;
  reply_way = ap way_number g.reply_to;
  forward_neighbour = ap neighbour_in g.forward_to;
  reply_neighbour = ap neighbour_in g.reply_to;
  forward_octets = g.forward_octets;
  reply_octets = g.reply_octets;
  instances = g.instances;
  hops = g.hops;
  kept = g.kept;
  tally = t ∙ ap (λ (k : ℕ). raised k counts) g.answer;
})
