-- Answers 15 and 16 of a request, and what is known where no line holds.
use Prim.Native.Nat.{ℕ, ◌≤◌, ◌<◌}
use mathlib.Core.Path.{◌≡◌, refl, ◌∙◌}
use mathlib.Core.Bool.{Bool, true, false, not, ◌&&◌}
use mathlib.Core.List.{List, []}
use Rattle.std.specs.Prelude.{Option, Some, None, is_some}
use native.Mathlib.Omega.{arith}
use lib.Dec.{ltb}
use lib.ListN.{length, take, length-take}
use borrow.Author.Tests.{ltb-false}
use Rattle.lemmas.proofs.Rules.{unheld}
use Rattle.lemmas.proofs.Choice.{or_left, or_right, true_false}
use Rattle.plain.specs.Lists.{given}
use Rattle.plain.specs.Address.{Address}
use Rattle.plain.specs.Given.{Settings}
use Rattle.plain.specs.Answers.{answer_of}
use Rattle.plain.specs.Rank.{min_hop, own_rank, rank_refused}
use Rattle.plain.specs.Octets.{elided}
use Rattle.plain.specs.Request.{grown, cannot_grow, forwards, request_lines}
use Rattle.rank.proofs.Refusal.{own_fits}
use Rattle.lemmas.specs.Each.{WholeVector}
use Rattle.grown.proofs.Growth.{whole_grown}
use Rattle.lemmas.proofs.Each.{each_take}
use Rattle.lemmas.proofs.Rules.{elided_length}
use Rattle.lemmas.specs.Optional.{of_option}
use Rattle.message.specs.Message.{message_in, received_by}
use Rattle.message.specs.declared.Parsed.{Parsed}
use Rattle.message.specs.declared.Link.{Link}
use Rattle.request.specs.Facts.{asked_of}
use Rattle.request.specs.Room.{Roomy}
use Rattle.request.specs.declared.RequestFacts.{RequestFacts}

-- 15: whether no Delta is given
pub delta_given : (d : Option ℕ) (b : Bool) → is_some d ≡ not b → b ≡ not (given (of_option d))
delta_given None true e = refl
delta_given None false e = e
delta_given (Some x) true e = e
delta_given (Some x) false e = refl

-- 16: ours are added where the request goes on and H is 0
full_added : (x : Settings) (goes h : Bool) (compr : ℕ) (v : List Address)
    → (goes && not h) && cannot_grow compr (grown x false v) ≡ goes && not h && cannot_grow compr (grown x h v)
full_added x true true compr v = refl
full_added x true false compr v = refl
full_added x false true compr v = refl
full_added x false false compr v = refl

pub full_is : (x : Settings) (p : Parsed) (a : RequestFacts) (v : List Address) (adds r : Bool)
    → adds ≡ forwards (message_in p []) (asked_of a) && not p.discovery.h
    → r ≡ adds && cannot_grow p.discovery.compr (grown x false v)
    → r ≡ forwards (message_in p []) (asked_of a) && not p.discovery.h && cannot_grow p.discovery.compr (grown x p.discovery.h v)
full_is x p a v adds r ea er =
    er ∙ rw ea (full_added x (forwards (message_in p []) (asked_of a)) p.discovery.h p.discovery.compr v)

-- ---- What is known where no line holds

module _ (x : Settings) (k : Link) (p : Parsed) (v : List Address) (a : RequestFacts)
    (zero_is : answer_of (request_lines x (received_by k []) (message_in p v) (asked_of a)) ≡ 0) where
  quiet : (rank_refused (min_hop (of_option p.configuration)) p.base.rank k.increase p.discovery.limit a.targ ≡ false)
      × (forwards (message_in p []) (asked_of a) && not p.discovery.h
      && cannot_grow p.discovery.compr (grown x p.discovery.h (take p.n v)) ≡ false)
  unfolding request_lines asked_of message_in forwards
  quiet =
      let e10 = (unheld _ _ zero_is (omega arith)).1 in
      let e11 = (unheld _ _ e10 (omega arith)).1 in
      let e12 = (unheld _ _ e11 (omega arith)).1 in
      let e13 = unheld _ _ e12 (omega arith) in
      let e14 = (unheld _ _ e13.1 (omega arith)).1 in
      let e15 = (unheld _ _ e14 (omega arith)).1 in
      let e16 = (unheld _ _ e15 (omega arith)).1 in
      (e13.0, (unheld _ _ e16 (omega arith)).0)

  -- our own rank fits
  pub rank_fits : own_rank p.base.rank k.increase < 65535
  rank_fits =
      own_fits (min_hop (of_option p.configuration)) p.base.rank k.increase p.discovery.limit a.targ
      quiet.0

-- where 16 is not answered, the vector has room for ours
grows : (x : Settings) (compr : ℕ) (w : List Address) → WholeVector (grown x false w) → cannot_grow compr (grown x false w) ≡ false → Roomy x false compr w
unfolding cannot_grow
grows x compr w whole e = record {
  addresses = ltb-false 16 (length (grown x false w)) (or_left (ltb 16 (length (grown x false w))) (ltb 252 (length (elided compr (grown x false w)))) e);
  octets =
      λ h.
      rw (← elided_length compr (grown x false w) whole)
      (ltb-false 252 (length (elided compr (grown x false w)))
      (or_right (ltb 16 (length (grown x false w))) (ltb 252 (length (elided compr (grown x false w)))) e));
}

room_if : (x : Settings) (h : Bool) (compr : ℕ) (w : List Address) → length w ≤ 16 → WholeVector (grown x false w)
    → not h && cannot_grow compr (grown x h w) ≡ false → Roomy x h compr w
room_if x true compr w few whole e = record { addresses = few; octets = λ h. true_false h }
room_if x false compr w few whole e = grows x compr w whole e

pub has_room : (x : Settings) (k : Link) (p : Parsed) (v : List Address) (a : RequestFacts)
    → answer_of (request_lines x (received_by k []) (message_in p v) (asked_of a)) ≡ 0
    → p.n ≤ 16 → length x.receiving ≡ 16 → length x.sending ≡ 16 → WholeVector v
    → forwards (message_in p []) (asked_of a) ≡ true
    → Roomy x p.discovery.h p.discovery.compr (take p.n v)
has_room x k p v a z few er es whole f =
    room_if x p.discovery.h p.discovery.compr (take p.n v) (omega (arith, length-take p.n v))
    (whole_grown x er es false (take p.n v) (each_take (λ (a : Address). length a ≡ 16) p.n v whole)) (rw f at (quiet x k p v a z).1)
