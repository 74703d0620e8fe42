-- What goes on, from its parts.
use mathlib.Core.Path.{◌≡◌, refl}
use mathlib.Core.Bool.{Bool, true, false, cond, not}
use mathlib.Core.List.{List, []}
use lib.ListN.{length, take}
use Rattle.plain.specs.Address.{Address}
use Rattle.plain.specs.Given.{Settings, Destination}
use Rattle.plain.specs.Request.{grown, s_out, with_rank, with_flag, forwarded_request, octets_if, to_if}
use Rattle.answer.specs.Answer.{destination_of}
use Rattle.answer.specs.declared.Destination as code
use Rattle.writer_option.specs.Sendable.{Sendable, short_prefixes}
use Rattle.message.specs.Message.{message_in, received_by}
use Rattle.message.specs.declared.Parsed.{Parsed}
use Rattle.message.specs.declared.Link.{Link}
use Rattle.decision.specs.Decision.{post_vector, post_message}
use Rattle.decision.specs.declared.Post.TheVariants.{Dio}
use Rattle.rule.specs.Heard.{Heard}
use Rattle.decision.specs.Decision.{Posts}
use Rattle.rule.proofs.Sent.{dio_posts}
use Rattle.request.specs.Facts as facts
use Rattle.request.specs.Room.{Roomy}
use Rattle.request.specs.declared.RequestFacts.{RequestFacts}

-- the request as it goes on, but for our addresses
abbrev pub onward : Link → Parsed → RequestFacts → Parsed
onward k p a = record {
  base = with_rank p.base a.rank;
  configuration = p.configuration;
  discovery = with_flag p.discovery (s_out (received_by k []) (message_in p []));
  n = p.n;
  count = a.targets.count;
  targets = a.targets.list;
}

grown_if : (x : Settings) (h : Bool) (w : List Address) → cond (not h) (grown x false w) w ≡ grown x h w
grown_if x true w = refl
grown_if x false w = refl

onward_message : (x : Settings) (k : Link) (p : Parsed) (a : RequestFacts) (v : List Address)
    → post_message x (onward k p a) (not p.discovery.h) v ≡ forwarded_request x (received_by k []) (message_in p v) (facts.asked_of a)
unfolding post_message post_vector forwarded_request message_in facts.asked_of
onward_message x k p a v = rw (grown_if x p.discovery.h (take p.n v))

module _ (k : Link) (p : Parsed) (a : RequestFacts) (g : Heard p) (s : facts.Sendable a) where
  onward_sendable : (x : Settings) (v : List Address) → Roomy x p.discovery.h p.discovery.compr (take p.n v)
      → Sendable (forwarded_request x (received_by k []) (message_in p v) (facts.asked_of a)).discovery
      (length (forwarded_request x (received_by k []) (message_in p v) (facts.asked_of a)).vector)
  unfolding forwarded_request with_flag message_in
  onward_sendable x v room = record { compr = g.compr; addresses = room.addresses; octets = room.octets }

  onward_prefixes : (x : Settings) (v : List Address)
      → short_prefixes (forwarded_request x (received_by k []) (message_in p v) (facts.asked_of a)).targets ≡ true
  unfolding forwarded_request facts.asked_of
  onward_prefixes x v = s.prefixes

  -- what goes on, where it does
  pub onward_posts : (on : Bool) → on ≡ true → (m : Parsed) (to : code.Destination) → m ≡ onward k p a → destination_of to ≡ Destination.group
      → (x : Settings) (v : List Address) → Roomy x p.discovery.h p.discovery.compr (take p.n v)
      → Posts x v (octets_if on (forwarded_request x (received_by k []) (message_in p v) (facts.asked_of a))) (to_if on Destination.group)
      (Dio m (not p.discovery.h) to)
  onward_posts on eo m to em et x v room =
      rw (eo, em)
      (dio_posts x v (onward k p a) (not p.discovery.h) to
      (forwarded_request x (received_by k []) (message_in p v) (facts.asked_of a)) Destination.group (onward_message x k p a v) et
      g.addresses s.few (onward_sendable x v room) (onward_prefixes x v))
