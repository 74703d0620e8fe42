-- What a reply's posts send: the path at OrigNode, the message between the ends.
use Prim.Native.Nat.{ℕ}
use mathlib.Core.Path.{◌≡◌, refl, sym, ap, ◌∙◌}
use mathlib.Core.Bool.{Bool, true, false, cond, not}
use mathlib.Core.List.{List, [], reverse, flatten}
use native.Mathlib.Omega.{arith}
use lib.Dec.{ltb, eqb}
use lib.ListN.{length, take, length-reverse}
use lib.Seq.{length-take-le}
use borrow.Author.Tests.{lt-ltb, ltb-false, eqb-true, eqb-false}
use Rattle.plain.specs.Address.{Address}
use Rattle.plain.specs.Given.{Settings, Destination}
use Rattle.plain.specs.Octets.{Message, octets_of, elided}
use Rattle.plain.specs.Request.{grown, cannot_grow, to_if}
use Rattle.plain.specs.Reply.{Answered, grows, path, next_destination, forwarded_reply, reply_sent}
use Rattle.lemmas.proofs.Choice.{cond_case, true_false, or_left, or_right}
use Rattle.answer.specs.Answer.{destination_of}
use Rattle.answer.specs.declared.Destination as code
use Rattle.writer_option.specs.Sendable.{Sendable}
use Rattle.message.specs.Message.{message_in}
use Rattle.message.specs.declared.Parsed.{Parsed}
use Rattle.decision.specs.Decision.{post_vector, post_message, post_path, post_octets}
use Rattle.decision.specs.declared.Post.{Post}
use Rattle.decision.specs.declared.Post.TheVariants.{Nothing, Dio, Path}
use Rattle.lemmas.specs.Each.{WholeVector}
use Rattle.grown.proofs.Growth.{whole_grown}
use Rattle.lemmas.proofs.Each.{each_take}
use Rattle.lemmas.proofs.Rules.{elided_length}
use Rattle.rule.specs.Heard.{Heard}
use Rattle.decision.specs.Decision.{Posts, Writable}
use Rattle.rule.proofs.Laws.{heard_sendable}
use Rattle.reply.specs.Facts.{is_full}
use Rattle.reply_sent.specs.Goes.{raised, path_goes}
use Rattle.reply.proofs.Laws.{grows_h}

-- ---- The path

module _ (p : Parsed) (vector : List Address) (a : Answered) where
  path_none : p.n ≡ 0 → path (message_in p vector) a ≡ []
  unfolding path message_in
  path_none e = rw e (cond_case (λ (v : List Address). v ≡ []) a.symmetric [] (reverse []) (λ s. refl) (λ s. refl))

  path_length : length (path (message_in p vector) a) ≡ length (take p.n vector)
  unfolding path message_in
  path_length =
      cond_case (λ (v : List Address). length v ≡ length (take p.n vector)) a.symmetric (take p.n vector)
      (reverse (take p.n vector)) (λ s. refl) (λ s. length-reverse (take p.n vector))

  path_turned : cond (not a.symmetric) (reverse (take p.n vector)) (take p.n vector) ≡ path (message_in p vector) a
  unfolding path message_in
  path_turned = go a.symmetric
    where
      go : (s : Bool) → cond (not s) (reverse (take p.n vector)) (take p.n vector) ≡ cond s (take p.n vector) (reverse (take p.n vector))
      go true = refl
      go false = refl

-- what is sent on, and where to
abbrev pub PostsForward : Settings → List Address → Message → Answered → Post → Type 0
PostsForward x vector m a r = Posts x vector (reply_sent x m a).forward (reply_sent x m a).forward_to r

chosen : {A : Type 0} (b : Bool) (x y : A) → b ≡ true → x ≡ cond b x y
chosen true x y e = refl
chosen false x y e = true_false (sym e)

other : {A : Type 0} (b : Bool) (x y : A) → b ≡ false → y ≡ cond b x y
other true x y e = true_false e
other false x y e = refl

posts_as : (x : Settings) (vector : List Address) (octets octets₁ : List ℕ) (to to₁ : Destination) (r : Post) → octets ≡ octets₁ → to ≡ to₁
    → Posts x vector octets to r → Posts x vector octets₁ to₁ r
posts_as x vector octets octets₁ to to₁ r e f p = record { sends = p.sends ∙ e; goes = p.goes ∙ f; fits = p.fits }

-- at OrigNode
posts_orig : (x : Settings) (vector : List Address) (m : Message) (a : Answered) (r : Post) → a.is_orig ≡ true
    → Posts x vector (elided 0 (path m a)) (to_if (ltb 0 (length (path m a))) Destination.caller) r → PostsForward x vector m a r
unfolding reply_sent
posts_orig x vector m a r o p =
    posts_as x vector _ _ _ _ r (chosen a.is_orig (elided 0 (path m a)) (octets_of (forwarded_reply x m a)) o)
    (chosen a.is_orig (to_if (ltb 0 (length (path m a))) Destination.caller) (next_destination x m a) o) p

-- between the ends
posts_between : (x : Settings) (vector : List Address) (m : Message) (a : Answered) (r : Post) → a.is_orig ≡ false
    → Posts x vector (octets_of (forwarded_reply x m a)) (next_destination x m a) r → PostsForward x vector m a r
unfolding reply_sent
posts_between x vector m a r o p =
    posts_as x vector _ _ _ _ r (other a.is_orig (elided 0 (path m a)) (octets_of (forwarded_reply x m a)) o)
    (other a.is_orig (to_if (ltb 0 (length (path m a))) Destination.caller) (next_destination x m a) o) p

module _ (x : Settings) (p : Parsed) (vector : List Address) (a : Answered) (e : length vector ≡ 16) (heard : Heard p) where
  -- at OrigNode
  pub posts_path : a.is_orig ≡ true → PostsForward x vector (message_in p vector) a (path_goes p.n (not a.symmetric))
  unfolding post_octets post_path flatten
  posts_path o = go (eqb p.n 0) refl
    where
      go : (z : Bool) → eqb p.n 0 ≡ z → PostsForward x vector (message_in p vector) a (cond z Nothing (Path p.n (not a.symmetric)))
      go true z =
          posts_orig x vector (message_in p vector) a Nothing o
          (rw (path_none p vector a (eqb-true p.n 0 z)) (record { sends = refl; goes = refl; fits = tt }))
      go false z =
          let some : p.n ≡ 0 → ⊥ = eqb-false p.n 0 z in
          let n : length (path (message_in p vector) a) ≡ p.n = path_length p vector a ∙ length-take-le p.n vector (omega (arith, heard.addresses)) in
          posts_orig x vector (message_in p vector) a (Path p.n (not a.symmetric)) o
          (record {
            sends = ap (elided 0) (path_turned p vector a);
            goes = rw (lt-ltb 0 (length (path (message_in p vector) a)) (omega arith));
            fits = heard.addresses;
          })

  module _ (g : Bool) (to : code.Destination) (k : g ≡ grows (message_in p vector) a) where
    sent_vector : post_vector x (raised p a.rank) g vector
        ≡ cond (grows (message_in p vector) a) (grown x p.discovery.h (take p.n vector)) (take p.n vector)
    unfolding post_vector raised message_in
    sent_vector = go g k
      where
        go : (b : Bool) → b ≡ grows (message_in p vector) a
            → cond b (grown x false (take p.n vector)) (take p.n vector)
            ≡ cond (grows (message_in p vector) a) (grown x p.discovery.h (take p.n vector)) (take p.n vector)
        go true q = rw (← q, grows_h (message_in p vector) a (sym q)) refl
        go false q = rw (← q) refl

    module _ (whole : WholeVector vector) (receiving : length x.receiving ≡ 16) (sending : length x.sending ≡ 16) (room : is_full x (message_in p vector) a ≡ false) where
      sent_room : Sendable p.discovery (length (post_vector x (raised p a.rank) g vector))
      unfolding post_vector raised message_in is_full cannot_grow
      sent_room = go g k
        where
          go : (b : Bool) → b ≡ grows (message_in p vector) a
              → Sendable p.discovery (length (cond b (grown x false (take p.n vector)) (take p.n vector)))
          go true q =
              let v = grown x false (take p.n vector) in
              let h = grows_h (message_in p vector) a (sym q) in
              let f : cannot_grow p.discovery.compr v ≡ false = rw (← q, h) at room in
              let many = ltb 16 (length v) in
              let long = ltb 252 (length (elided p.discovery.compr v)) in
              record {
                compr = heard.compr;
                addresses = ltb-false 16 (length v) (or_left many long f);
                octets = λ i.
                    rw (← elided_length p.discovery.compr v (whole_grown x receiving sending false (take p.n vector) (each_take (λ (a : Address). length a ≡ 16) p.n vector whole)))
                    (ltb-false 252 (length (elided p.discovery.compr v)) (or_right many long f));
              }
          go false q = heard_sendable p vector e heard

      room_in : Writable x (raised p a.rank) g vector
      unfolding raised
      room_in = record { received = heard.addresses; sendable = sent_room; targets = heard.targets; prefixes = heard.prefixes }

      -- between the ends
      pub posts_reply : a.is_orig ≡ false → destination_of to ≡ next_destination x (message_in p vector) a
          → PostsForward x vector (message_in p vector) a (Dio (raised p a.rank) g to)
      unfolding post_octets post_message forwarded_reply message_in raised
      posts_reply o d =
          posts_between x vector (message_in p vector) a (Dio (raised p a.rank) g to) o
          (record { sends = rw sent_vector refl; goes = d; fits = room_in })
