-- The tie to the code: the contract that is proved of a public call asks nothing ("Any bytes, link facts and lent tables may be handed in",
-- demand 1) and ensures `Promised` of that call. `spec` is what the prover makes of the function's clauses and holds its proof to.
use Rattle.std.specs.Prelude.{ℕ, ◌≡◌, List}
use seplogic.Ra.Ura.{Ura}
use base.Logic.{SProp}
use contract.Lifetimes.{Lfts}
use contract.Monad.{Fun}
use contract.Notation.{connectives}
use Rattle.std.specs.Borrow.{Bor, MutBor}
use denote.Triple.Entry.{Args}
use denote.Triple.Spec.{exits}
use types.Logic.{Logic}
use prog.Memory.{Memory}
use prog.Routine.{Routine}
use Rattle.plain.specs.declared.Target.{Target}
use Rattle.own.specs.declared.Own.{Own}
use Rattle.row.specs.declared.InstanceRow.{InstanceRow}
use Rattle.row.specs.declared.RouteRow.{RouteRow}
use Rattle.message.specs.declared.Link.{Link}
use Rattle.start.specs.declared.Asking.{Asking}
use Rattle.outcome.specs.declared.Outcome.{Outcome}
use Rattle.called.specs.Calls.{Asked, Promised}
use Rattle.calls.specs.contracts.message as message
use Rattle.calls.specs.contracts.start as start

-- In both: any arguments and any result r; `x.now` is what stands behind a reference x, and s are the lent parameters as the call left them.
-- What stands before the arguments is the program logic's.
-- Two definitions, and not one over what is asked: a call's own signature types its arguments and what they are left as, so one for both would be
-- handed a function into each.

-- `calls::message`
abbrev pub MessageContract : Type 2
MessageContract =
    (M : Type 1) (𝓤 : Ura M) (𝓛 : Logic 𝓤) (mem : Memory → SProp 𝓤) (run : Routine → Fun 𝓤) (κs : Lfts 5)
    (instances : MutBor (List InstanceRow)) (routes : MutBor (List RouteRow)) (forward reply : MutBor (List ℕ)) (octets : Bor (List ℕ)) (o : Own)
    (clock seq t : ℕ) (k : Link) (r : Outcome)
    → let a : Args message.signature κs = (instances, (routes, (forward, (reply, (octets, (o, (clock, (seq, (t, (k, tt)))))))))) in
    ((message.spec 𝓛 mem run κs a).requires tt ≡ (connectives 𝓤).⊤ₛ)
    × ((message.spec 𝓛 mem run κs a).ensures tt r
    ≡ exits 𝓛 message.signature (message.ended).kept κs a (λ s. (connectives 𝓤).⌜◌⌝ (Promised o (record {
      time = t;
      asked = Asked.message k octets.now;
      before = record { clock = clock; seq = seq; instances = instances.now; routes = routes.now };
      instances_after = s.0.now;
      routes_after = s.1.0.now;
      forward_before = forward.now;
      forward_after = s.1.1.0.now;
      reply_before = reply.now;
      reply_after = s.1.1.1.0.now;
      outcome = r;
    }))))

-- `calls::start`
abbrev pub StartContract : Type 2
StartContract =
    (M : Type 1) (𝓤 : Ura M) (𝓛 : Logic 𝓤) (mem : Memory → SProp 𝓤) (run : Routine → Fun 𝓤) (κs : Lfts 5)
    (instances : MutBor (List InstanceRow)) (routes : MutBor (List RouteRow)) (forward reply : MutBor (List ℕ)) (targets : Bor (List Target)) (o : Own)
    (clock seq t : ℕ) (asking : Asking) (r : Outcome)
    → let a : Args start.signature κs = (instances, (routes, (forward, (reply, (targets, (o, (clock, (seq, (t, (asking, tt)))))))))) in
    ((start.spec 𝓛 mem run κs a).requires tt ≡ (connectives 𝓤).⊤ₛ)
    × ((start.spec 𝓛 mem run κs a).ensures tt r
    ≡ exits 𝓛 start.signature (start.ended).kept κs a (λ s. (connectives 𝓤).⌜◌⌝ (Promised o (record {
      time = t;
      asked = Asked.start asking targets.now;
      before = record { clock = clock; seq = seq; instances = instances.now; routes = routes.now };
      instances_after = s.0.now;
      routes_after = s.1.0.now;
      forward_before = forward.now;
      forward_after = s.1.1.0.now;
      reply_before = reply.now;
      reply_after = s.1.1.1.0.now;
      outcome = r;
    }))))
