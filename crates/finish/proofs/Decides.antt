-- What a message comes to, from what its parts give: said once for a request and a reply. By `lines` facts have an answer, by `accept` an
-- outcome; `told` are the facts as the code has them, and mean `asking`, from which the rules decide.
use Prim.Native.Nat.{ℕ}
use mathlib.Core.Path.{◌≡◌, sym, ap, subst, ◌∙◌}
use mathlib.Core.List.{List}
use mathlib.Core.Option.{Option}
use borrow.Author.Tests.{eq-eqb}
use Rattle.std.specs.Prelude as core
use Rattle.std.specs.Option.{option_map}
use Rattle.plain.specs.Address.{Address}
use Rattle.plain.specs.Given.{Settings, Route}
use Rattle.plain.specs.Table.{Numbered}
use Rattle.plain.specs.Answers.{Line, answer_of}
use Rattle.plain.specs.Request.{Accepted}
use Rattle.plain.specs.Plain as plain
use Rattle.plain.specs.Plain.{enact}
use Rattle.answer.specs.Answer.{answer_number}
use Rattle.answer.specs.declared.Answer.{Answer}
use Rattle.row.specs.declared.InstanceRow.{InstanceRow}
use Rattle.row.specs.declared.RouteRow.{RouteRow}
use Rattle.message.specs.Message.{number_of, numbered, route_found}
use Rattle.message.specs.declared.Found.{Found}
use Rattle.decision.specs.Decision.{Posts, Stores}
use Rattle.decision.specs.declared.Decided.{Decided}
use Rattle.decision.specs.declared.Post.{Post}
use Rattle.outcome.specs.Nothing.{nothing_sent}
use Rattle.outcome.specs.declared.Outcome.{Outcome}
use Rattle.finish.specs.Gives.{state_of, decision_of, Settled, Gives}
use Rattle.message.specs.declared.Live.{Live}
use Rattle.finish.proofs.Laws.{refused_gives}
use Rattle.finish.proofs.Settles.{settled}

module _ {Q : Type 0} (lines : Q → List Line) (accept : Q → Accepted) (told asking : Q) (means : told ≡ asking) where
  module _ (decision : plain.Decision) (decided : decision ≡ decision_of (answer_of (lines asking)) (accept asking)) where
    -- refused
    pub refused : (clock seq t : ℕ) (rows : List InstanceRow) (routes : List RouteRow) (forward reply : List ℕ) (answer : Answer) (n : ℕ) (r : Outcome)
        → answer_number answer ≡ answer_of (lines told) → n ≡ answer_number answer → (n ≡ 0 → ⊥)
        → r ≡ record { answer = answer; forward = nothing_sent; reply = nothing_sent; clock = clock; seq = seq }
        → Gives (enact t (state_of clock seq rows routes) decision) rows rows routes routes forward forward reply reply r
    refused clock seq t rows routes forward reply answer n r ea en h er =
        let e = ea ∙ ap (λ (q : Q). answer_of (lines q)) means in
        rw decided (refused_gives clock seq t rows routes forward reply _ _ answer r e (λ z. h (en ∙ (e ∙ z))) er)

    -- the rules take it
    pub taken : answer_of (lines told) ≡ 0 → decision ≡ plain.Decision.take (accept asking)
    taken zero = decided ∙ rw (eq-eqb (answer_of (lines asking)) 0 (sym (ap (λ (q : Q). answer_of (lines q)) means) ∙ zero))

  -- what is stored and sent is the rules': `row` and `route` are what the facts found of a kind B
  pub settles : {B : Type 0} (row : Q → Option (Numbered B)) (route : Q → Option (Numbered Route)) (kind : InstanceRow → B)
      (f : core.Option (Found InstanceRow)) (g : core.Option (Found RouteRow)) (l : Live)
      → l ≡ record { row = option_map number_of f; route = option_map number_of g }
      → row asking ≡ numbered kind f → route asking ≡ route_found g
      → (x : Settings) (vector : List Address) (d : Decided) (there back : Post)
      → Stores (accept told) (row told) (route told) d
      → Posts x vector (accept told).sent.forward (accept told).sent.forward_to there
      → Posts x vector (accept told).sent.reply (accept told).sent.reply_to back
      → Settled x vector (accept asking) l d there back
  settles row route kind f g l el er eg x vector d there back w pf pr =
      settled f g l el kind x vector (accept asking) d there back
      (rw (← er, ← eg) (subst (λ (q : Q). Stores (accept q) (row q) (route q) d) means w))
      (subst (λ (q : Q). Posts x vector (accept q).sent.forward (accept q).sent.forward_to there) means pf)
      (subst (λ (q : Q). Posts x vector (accept q).sent.reply (accept q).sent.reply_to back) means pr)
