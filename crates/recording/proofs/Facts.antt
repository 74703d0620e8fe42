-- Facts about real calls and recordings.
use mathlib.Core.Path.{◌≡◌, sym, ap, subst, ◌∙◌}
use mathlib.Core.List.{List, [], ◌∷◌, ◌++◌}
use native.Mathlib.Omega.{arith}
use lib.ListN.{length, drop}
use Rattle.plain.specs.Given.{State, Sent}
use Rattle.plain.specs.Plain.{nothing, step}
use Rattle.memory.proofs.Facts as rules
use Rattle.memory.proofs.Own as number
use Rattle.memory.specs.Facts.{Proper}
use Rattle.memory.proofs.Memory.{fresh_is}
use Rattle.memory.proofs.Sound.{Sound, step_sound, sound_not_two}
use Rattle.own.specs.Settings.{settings_of}
use Rattle.own.specs.declared.Own.{Own}
use Rattle.called.specs.Calls.{Node, Called, fed}
use Rattle.recording.specs.Recording.{node_after, Recorded, calls}
use Rattle.recording.specs.Facts.{RefusalKeeps, ClockRises, OwnNumbers, OwnNumber, NoTwos, NeverTwo}
use Rattle.recording.proofs.Real.{state_in, fresh}

pub refusal_keeps : RefusalKeeps
refusal_keeps o e p n = record {
  forward_length = p.forward_length ∙ ap (λ (s : Sent). length s.forward) sent;
  reply_length = p.reply_length ∙ ap (λ (s : Sent). length s.reply) sent;
  node = λ i. record {
    clock = ((p.state ∙ stands) i).clock;
    seq = ((p.state ∙ stands) i).own;
    instances = (p.kept (λ z. n (p.answer ∙ z))).0 i;
    routes = (p.kept (λ z. n (p.answer ∙ z))).1 i;
  };
  forward = p.forward_octets ∙ ap (λ (s : Sent). s.forward ++ drop (length s.forward) e.forward_before) sent;
  reply = p.reply_octets ∙ ap (λ (s : Sent). s.reply ++ drop (length s.reply) e.reply_before) sent;
}
  where
    stands : (step (settings_of o) (state_in e.before) (fed e)).state ≡ state_in e.before
    stands = (rules.refusal_keeps (settings_of o) (state_in e.before) (fed e) (λ z. n (p.answer ∙ z))).0

    sent : (step (settings_of o) (state_in e.before) (fed e)).sent ≡ nothing
    sent = (rules.refusal_keeps (settings_of o) (state_in e.before) (fed e) (λ z. n (p.answer ∙ z))).1

pub clock_rises : ClockRises
clock_rises o e p =
    rw (ap (λ (s : State). s.clock) p.state) (rules.clock_rises (settings_of o) (state_in e.before) (fed e))

-- each call leaves a good own number where it was given one
own_numbers : (o : Own) (n : Node) (es : List Called) → number.Own n.seq → Recorded o n es → OwnNumbers es
own_numbers o n [] h r = tt
own_numbers o n (e ∷ es) h r = (k.0, k.1, own_numbers o (node_after e) es k r.2)
  where
    k : number.Own e.outcome.seq
    k =
        rw (ap (λ (s : State). s.own) r.1.state)
        (number.step_own (settings_of o) (state_in e.before) (fed e) (rw (ap (λ (m : Node). m.seq) r.0) h))

pub own_number : OwnNumber
own_number o n es f r = own_numbers o n es (rw f.own (omega arith)) r

-- a call from a sound state is not answered 2, and leaves a sound state
no_twos : (o : Own) (n : Node) (es : List Called) → Sound (state_in n) → Recorded o n es → Proper (calls es) → NoTwos es
no_twos o n [] h r q = tt
no_twos o n (e ∷ es) h r q = (
  λ z. sound_not_two (settings_of o) (state_in e.before) (fed e) before (sym r.1.answer ∙ z),
  no_twos o (node_after e) es (subst Sound (sym r.1.state) (step_sound (settings_of o) (state_in e.before) (fed e) q.0 before)) r.2 q.1,
)
  where
    before : Sound (state_in e.before)
    before = subst (λ (m : Node). Sound (state_in m)) (sym r.0) h

pub never_two : NeverTwo
never_two o n es f r =
    no_twos o n es
    (subst Sound (sym (fresh_is (state_in n) (fresh n f))) (rules.fresh_sound (length (state_in n).instances) (length (state_in n).routes))) r
