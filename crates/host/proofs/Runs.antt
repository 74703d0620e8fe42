-- A host's calls keep what demand 3's claim asks of real calls, and the tally counts them.
use Prim.Native.Nat.{ℕ}
use mathlib.Core.Path.{◌≡◌, refl, sym, ap, ap₂, subst, ◌∙◌}
use mathlib.Core.List.{List, [], ◌∷◌, ◌++◌, map}
use lib.ListN.{length, drop, get_or}
use Rattle.lemmas.specs.Written.{over}
use Rattle.plain.specs.Given.{Settings, State, Destination}
use Rattle.plain.specs.Tally.{cleared, raised, tallied}
use Rattle.memory.specs.Claim.{Kept, Ran}
use Rattle.memory.proofs.Memory.{more_memory}
use Rattle.tally.proofs.Counts.{counted}
use Rattle.host.specs.Host.{way_number, neighbour_in}
use Rattle.host.specs.Runs.{HostCall, result_of, told_to, done_by, Keeps, HostRan, HostClaim, Tallies, TallyClaim}

-- ---- Demand 3

to_back : (d : Destination) → told_to (way_number d) (neighbour_in d) ≡ d
to_back Destination.nowhere = refl
to_back Destination.group = refl
to_back (Destination.neighbour a) = refl
to_back Destination.caller = refl

octets_at : (n : ℕ) (xs d d' : List ℕ) → n ≡ length xs → d' ≡ over xs d → d' ≡ xs ++ drop n d
octets_at n xs d d' e h = h ∙ ap (λ (k : ℕ). xs ++ drop k d) (sym e)

pub keeps : Keeps
keeps e g = record {
  state = g.state;
  answer = g.answer;
  forward_length = g.forward_length;
  reply_length = g.reply_length;
  forward_to = ap₂ told_to g.forward_way g.forward_neighbour ∙ to_back (result_of e).sent.forward_to;
  reply_to = ap₂ told_to g.reply_way g.reply_neighbour ∙ to_back (result_of e).sent.reply_to;
  forward = octets_at e.told.forward_length (result_of e).sent.forward e.forward e.forward' g.forward_length g.forward_octets;
  reply = octets_at e.told.reply_length (result_of e).sent.reply e.reply e.reply' g.reply_length g.reply_octets;
}

host_ran : (x : Settings) (s : State) (es : List HostCall) → HostRan x s es → Ran x s (map done_by es)
host_ran x s [] r = tt
host_ran x s (e ∷ es) (own, before, g, more) =
    (before, subst (λ (y : Settings). Kept y (done_by e)) own (keeps e g), host_ran x (done_by e).after es more)

pub host_claim : HostClaim
host_claim x s u es fs f r g w = more_memory x s u (map done_by es) (map done_by fs) f (host_ran x s es r) g (host_ran x u fs w)

-- ---- The tally

tallied_by : (es : List HostCall) (counts counts' : List ℕ) → Tallies counts es counts' → counts' ≡ tallied counts (map (λ (e : HostCall). e.told.answer) es)
unfolding tallied
tallied_by [] counts counts' e = e
tallied_by (e ∷ es) counts counts' (at, g, more) =
    tallied_by es e.counts' counts' more
    ∙ ap (λ (c : List ℕ). tallied c (map (λ (e : HostCall). e.told.answer) es)) (g.tally ∙ ap₂ raised (sym g.answer) at)

pub tally_claim : TallyClaim
tally_claim es counts' h k room =
    ap (λ (c : List ℕ). get_or c k 0) (tallied_by es cleared counts' h) ∙ counted (map (λ (e : HostCall). e.told.answer) es) k room
