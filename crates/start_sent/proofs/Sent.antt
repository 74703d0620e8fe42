-- What a start sends, from its parts.
use Prim.Native.Nat.{ℕ, ◌≤◌}
use mathlib.Core.Path.{◌≡◌, refl, ◌∙◌}
use mathlib.Core.Bool.{true, false}
use mathlib.Core.List.{List, []}
use native.Mathlib.Omega.{arith}
use lib.ListN.{length}
use Rattle.plain.specs.Address.{Address}
use Rattle.plain.specs.Given.{Settings, Destination}
use Rattle.plain.specs.Octets.{octets_of}
use Rattle.plain.specs.Request.{start_message}
use Rattle.lemmas.proofs.Choice.{cond_case}
use Rattle.answer.specs.Answer.{destination_of}
use Rattle.answer.specs.declared.Destination as code
use Rattle.writer_option.specs.Sendable.{Sendable, short_prefixes}
use Rattle.targets.specs.declared.Targets.{Targets}
use Rattle.kept.specs.Kept.{list_of}
use Rattle.message.specs.Message.{message_in}
use Rattle.message.specs.declared.Parsed.{Parsed}
use Rattle.decision.specs.Decision.{Posts}
use Rattle.decision.specs.declared.Post.TheVariants.{Dio}
use Rattle.rule.proofs.Sent.{dio_posts, plain_message}
use Rattle.start.specs.Start as start
use Rattle.start.specs.Start.{start_of}
use Rattle.start.specs.declared.Asking.{Asking}

-- a message without a vector is the same beside any addresses
no_addresses : (m : Parsed) (vector : List Address) → m.n ≡ 0 → message_in m vector ≡ message_in m []
unfolding message_in
no_addresses m vector e = rw e

module _ (x : Settings) (vector : List Address) (own : ℕ) (s : Asking) (ts : Targets) (g : start.Sendable s ts) (m : Parsed)
    (em : message_in m [] ≡ start_message x own (start_of s []) (list_of ts)) (en : m.n ≡ 0) (ec : m.count ≡ ts.count) where
  start_sendable : Sendable (start_message x own (start_of s []) (list_of ts)).discovery 0
  unfolding start_message
  start_sendable = record {
    compr = cond_case (λ (n : ℕ). n ≤ 15) s.h 0 s.compr (λ q. omega arith) (λ q. g.compr);
    addresses = omega arith;
    octets = λ h. omega arith;
  }

  start_prefixes : short_prefixes (start_message x own (start_of s []) (list_of ts)).targets ≡ true
  unfolding start_message
  start_prefixes = g.prefixes

  start_vector : length (start_message x own (start_of s []) (list_of ts)).vector ≡ 0
  unfolding start_message
  start_vector = refl

  pub start_posts : (to : code.Destination) → destination_of to ≡ Destination.group
      → Posts x vector (octets_of (start_message x own (start_of s []) (list_of ts))) Destination.group (Dio m false to)
  start_posts to et =
      dio_posts x vector m false to (start_message x own (start_of s []) (list_of ts)) Destination.group (plain_message x m vector ∙ (no_addresses m vector en ∙ em)) et
      (omega (arith, en)) (omega (arith, ec, g.targets)) (rw start_vector start_sendable) start_prefixes
