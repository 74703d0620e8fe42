-- Our reply, from its parts.
use Prim.Native.Nat.{ℕ, ◌≤◌, ◌<◌}
use mathlib.Core.Path.{◌≡◌, refl, ◌∙◌}
use mathlib.Core.Bool.{Bool, true, false, cond}
use mathlib.Core.List.{List, [], ◌∷◌}
use native.Mathlib.Omega.{arith}
use lib.ListN.{length, take, set}
use Rattle.lemmas.proofs.Choice.{cond_case}
use Rattle.plain.specs.Lists.{all}
use Rattle.plain.specs.Address.{Address}
use Rattle.plain.specs.Given.{Settings, Received, Destination}
use Rattle.plain.specs.Request.{s_out, reply_message, whole_target, octets_if, to_if}
use Rattle.plain.specs.declared.Base.{Base}
use Rattle.plain.specs.declared.Discovery.{Discovery}
use Rattle.answer.specs.Answer.{destination_of}
use Rattle.answer.specs.declared.Destination as code
use Rattle.writer_option.specs.Sendable.{Sendable, short_prefixes}
use Rattle.message.specs.Message.{message_in, received_by}
use Rattle.message.specs.declared.Parsed.{Parsed}
use Rattle.message.specs.declared.Link.{Link}
use Rattle.decision.specs.declared.Post.TheVariants.{Dio}
use Rattle.rule.specs.Heard.{Heard}
use Rattle.decision.specs.Decision.{Posts}
use Rattle.rule.proofs.Laws.{heard_sendable}
use Rattle.rule.proofs.Sent.{dio_posts, plain_message}
use Rattle.request_replied.specs.Replied.{Replied}

-- of an array whose first place is set, the first is what was set
first_set : {A : Type 0} (xs : List A) (a : A) → 0 < length xs → take 1 (set xs 0 a) ≡ a ∷ []
first_set [] a h = absurd (omega arith)
first_set (x ∷ xs) a h = refl

first_if : (s : Bool) (n : ℕ) (v : List Address) → take (cond s n 0) v ≡ cond s (take n v) []
first_if true n v = refl
first_if false n v = refl

count_if : (s : Bool) (n : ℕ) → cond s n 0 ≤ n
count_if true n = omega arith
count_if false n = omega arith

module _ (x : Settings) (k : Link) (p : Parsed) (own delta : ℕ) where
  pub replied_is : (base : Base) (discovery : Discovery) (n : ℕ)
      → ((c : Received) (v : List Address) → base ≡ (reply_message x own c (message_in p v) delta).base)
      → ((c : Received) (v : List Address) → discovery ≡ (reply_message x own c (message_in p v) delta).discovery)
      → n ≡ cond (s_out (received_by k []) (message_in p [])) p.n 0
      → length p.targets ≡ 8
      → Replied x k p own delta (record {
        base = base;
        configuration = p.configuration;
        discovery = discovery;
        n = n;
        count = 1;
        targets = set p.targets 0 (whole_target p.base.dodagid own);
      })
  unfolding message_in reply_message
  replied_is base discovery n eb ed en eight = record {
    means = λ v.
        rw (
          eb (received_by k []) v,
          ed (received_by k []) v,
          en,
          first_if (s_out (received_by k []) (message_in p [])) p.n v,
          first_set p.targets (whole_target p.base.dodagid own) (omega arith),
        );
    addresses = rw en (count_if (s_out (received_by k []) (message_in p [])) p.n);
    targets = omega arith;
  }

  module _ (g : Heard p) (m : Parsed) (to : code.Destination) (e : Replied x k p own delta m) where
    reply_sendable : (v : List Address) → length v ≡ 16 → Sendable (reply_message x own (received_by k []) (message_in p v) delta).discovery
        (length (reply_message x own (received_by k []) (message_in p v) delta).vector)
    unfolding reply_message message_in
    reply_sendable v l =
        cond_case (λ (w : List Address). Sendable (reply_message x own (received_by k []) (message_in p v) delta).discovery (length w))
        (s_out (received_by k []) (message_in p [])) (take p.n v) []
        (λ q. let s = heard_sendable p v l g in record { compr = s.compr; addresses = s.addresses; octets = s.octets })
        (λ q. record { compr = g.compr; addresses = omega arith; octets = λ h. omega arith })

    reply_prefixes : (v : List Address) → short_prefixes (reply_message x own (received_by k []) (message_in p v) delta).targets ≡ true
    unfolding reply_message all
    reply_prefixes v = refl

    -- our reply, where we reply
    pub reply_posts : (on : Bool) → on ≡ true → (dest : Destination) → destination_of to ≡ dest → (v : List Address) → length v ≡ 16
        → Posts x v (octets_if on (reply_message x own (received_by k []) (message_in p v) delta)) (to_if on dest) (Dio m false to)
    reply_posts on eo dest et v l =
        rw eo
        (dio_posts x v m false to (reply_message x own (received_by k []) (message_in p v) delta) dest
        (plain_message x m v ∙ e.means v) et (omega (arith, e.addresses, g.addresses)) e.targets (reply_sendable v l) (reply_prefixes v))
