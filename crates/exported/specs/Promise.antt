-- The tie to the code: the contract that is proved of an exported call asks nothing ("Any bytes, link facts and lent tables may be handed in",
-- demand 1) and ensures `HostPromised` of that call, which is what demand 3 and the tally's claim ask of each call of a list (host,
-- specs/Runs.antt). `spec` is what the prover makes of the clauses in crates/kajakulm/src/lib.rt and holds the function's proof to;
-- it is no file of the repository. kajakulm_c has these clauses word for word; its own contracts are not cited here.
use Rattle.std.specs.Prelude.{ℕ, ◌≡◌, List, length}
use seplogic.Ra.Ura.{Ura}
use base.Logic.{SProp}
use contract.Lifetimes.{Lfts}
use contract.Monad.{Fun}
use contract.Notation.{connectives}
use Rattle.std.specs.Borrow.{Bor, MutBor}
use denote.Triple.Entry.{Args}
use denote.Triple.Spec.{exits}
use types.Logic.{Logic}
use prog.Memory.{Memory}
use prog.Routine.{Routine}
use Rattle.plain.specs.declared.Target.{Target}
use Rattle.own.specs.Settings.{settings_of}
use Rattle.own.specs.declared.Own.{Own}
use Rattle.row.specs.declared.InstanceRow.{InstanceRow}
use Rattle.row.specs.declared.RouteRow.{RouteRow}
use Rattle.called.specs.Calls.{message_call, start_call}
use Rattle.handed.specs.Handed.{link_of, asking_of}
use Rattle.handed.specs.declared.HostLink.{HostLink}
use Rattle.handed.specs.declared.HostStart.{HostStart}
use Rattle.host.specs.Runs.{HostPromised}
use Rattle.host.specs.declared.HostOutcome.{HostOutcome}
use Rattle.tally.specs.declared.Tally.{Tally}
use Rattle.kajakulm.specs.contracts.kajakulm_message as message
use Rattle.kajakulm.specs.contracts.kajakulm_start as start

-- In both: any arguments and any result r; `x.now` is what stands behind a reference x, and s are the lent parameters as the call left them.
-- What stands before the arguments is the program logic's.
-- Two definitions, and not one over what is asked: a call's own signature types its arguments and what they are left as, so one for both would be
-- handed a function into each.

-- `kajakulm_message`
abbrev pub MessageContract : Type 2
MessageContract =
    (M : Type 1) (𝓤 : Ura M) (𝓛 : Logic 𝓤) (mem : Memory → SProp 𝓤) (run : Routine → Fun 𝓤) (κs : Lfts 6)
    (instances : MutBor (List InstanceRow)) (routes : MutBor (List RouteRow)) (forward reply : MutBor (List ℕ)) (octets : Bor (List ℕ)) (own : Own)
    (clock seq time : ℕ) (link : HostLink) (tally : MutBor Tally) (r : HostOutcome)
    → let a : Args message.signature κs = (instances, (routes, (forward, (reply, (octets, (own, (clock, (seq, (time, (link, (tally, tt))))))))))) in
    ((message.spec 𝓛 mem run κs a).requires tt ≡ (connectives 𝓤).⊤ₛ)
    × ((message.spec 𝓛 mem run κs a).ensures tt r
    ≡ exits 𝓛 message.signature (message.ended).kept κs a (λ s. (connectives 𝓤).⌜◌⌝ (HostPromised (record {
      settings = settings_of own;
      call = message_call time (length forward.now) (length reply.now) (link_of link) octets.now;
      clock = clock;
      seq = seq;
      rows = instances.now;
      rows' = s.0.now;
      routes = routes.now;
      routes' = s.1.0.now;
      forward = forward.now;
      forward' = s.1.1.0.now;
      reply = reply.now;
      reply' = s.1.1.1.0.now;
      counts = tally.now.counts;
      counts' = s.1.1.1.1.1.1.1.1.1.1.0.now.counts;
      told = r;
    }))))

-- `kajakulm_start`
abbrev pub StartContract : Type 2
StartContract =
    (M : Type 1) (𝓤 : Ura M) (𝓛 : Logic 𝓤) (mem : Memory → SProp 𝓤) (run : Routine → Fun 𝓤) (κs : Lfts 6)
    (instances : MutBor (List InstanceRow)) (routes : MutBor (List RouteRow)) (forward reply : MutBor (List ℕ)) (targets : Bor (List Target)) (own : Own)
    (clock seq time : ℕ) (asking : HostStart) (tally : MutBor Tally) (r : HostOutcome)
    → let a : Args start.signature κs = (instances, (routes, (forward, (reply, (targets, (own, (clock, (seq, (time, (asking, (tally, tt))))))))))) in
    ((start.spec 𝓛 mem run κs a).requires tt ≡ (connectives 𝓤).⊤ₛ)
    × ((start.spec 𝓛 mem run κs a).ensures tt r
    ≡ exits 𝓛 start.signature (start.ended).kept κs a (λ s. (connectives 𝓤).⌜◌⌝ (HostPromised (record {
      settings = settings_of own;
      call = start_call time (length forward.now) (length reply.now) (asking_of asking) targets.now;
      clock = clock;
      seq = seq;
      rows = instances.now;
      rows' = s.0.now;
      routes = routes.now;
      routes' = s.1.0.now;
      forward = forward.now;
      forward' = s.1.1.0.now;
      reply = reply.now;
      reply' = s.1.1.1.0.now;
      counts = tally.now.counts;
      counts' = s.1.1.1.1.1.1.1.1.1.1.0.now.counts;
      told = r;
    }))))
