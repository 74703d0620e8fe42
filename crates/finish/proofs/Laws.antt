-- What a call comes to, by each way out.
use Prim.Native.Nat.{ℕ, zero, suc, ◌<◌}
use mathlib.Core.Path.{◌≡◌, refl, sym, ap, subst, ◌∙◌}
use mathlib.Core.Logic.{◌⊎◌, inl, inr, ⊎_elim}
use mathlib.Core.Bool.{Bool, true, false, cond, ◌&&◌}
use mathlib.Core.List.{List, [], ◌∷◌, map}
use mathlib.Core.Option.{some, none}
use native.Mathlib.Omega.{arith}
use lib.Dec.{eqb}
use lib.ListN.{length, get_or, set}
use borrow.Author.Tests.{ne_eqb}
use Rattle.std.specs.Prelude as core
use Rattle.std.specs.Prelude.{Some, None, is_some, option_map, IfSome}
use Rattle.lemmas.proofs.Choice.{and_false}
use Rattle.lemmas.specs.Written.{over, Written}
use Rattle.plain.specs.Address.{Address}
use Rattle.plain.specs.Given.{Settings, Instance}
use Rattle.plain.specs.Table.{has_room, placed, instance_deadline, route_deadline}
use Rattle.plain.specs.Request.{Accepted}
use Rattle.plain.specs.Plain as plain
use Rattle.plain.specs.Plain.{enact, place, refused_by, stored}
use Rattle.answer.specs.Answer.{answer_number, destination_of}
use Rattle.answer.specs.declared.Destination as code
use Rattle.answer.specs.declared.Answer.{Answer}
use Rattle.answer.specs.declared.Answer.TheVariants.{Done, NoRow}
use Rattle.row.specs.Meaning.{instance_of, route_of, request_of, reply_of, route_in, no_row, no_route}
use Rattle.row.specs.Record.{reply_record, route_record}
use Rattle.row.specs.Fields.{reply_in}
use Rattle.row.specs.declared.ReplyFields.{ReplyFields}
use Rattle.row.proofs.Laws.{reply_back}
use Rattle.row.specs.declared.InstanceRow.{InstanceRow}
use Rattle.row.specs.declared.RouteRow.{RouteRow}
use Rattle.decision.specs.Decision.{post_octets, post_to, instance_meant, record_of}
use Rattle.decision.proofs.Laws.{again}
use Rattle.decision.specs.declared.Decided.{Decided}
use Rattle.decision.specs.declared.Post.{Post}
use Rattle.place.specs.Places.{Placed, RoutePlaced, set_at}
use Rattle.place.specs.declared.Places as P
use Rattle.place.specs.declared.RoutePlace.{RoutePlace}
use Rattle.message.specs.declared.Live.{Live}
use Rattle.outcome.specs.declared.Outcome.{Outcome}
use Rattle.outcome.specs.Nothing.{nothing_sent}
use Rattle.finish.specs.Gives.{second_record, state_of, decision_of, Records, RouteRecords, Settled, Gives}

-- ---- records that are written

module _ (r : InstanceRow) where
  -- a reply row's record has kind 2
  reply_kind : reply_record (reply_of r) ≡ r → r.kind ≡ 2
  unfolding reply_record
  reply_kind e = sym (ap (λ (z : InstanceRow). z.kind) e)

  pub instance_means : record_of (instance_meant r) ≡ r → instance_of r ≡ some (instance_meant r)
  unfolding instance_meant record_of instance_of
  instance_means e = go (eqb r.kind 1) refl
    where
      go : (b : Bool) → eqb r.kind 1 ≡ b
          → cond (eqb r.kind 1) (some (Instance.request (request_of r))) (cond (eqb r.kind 2) (some (Instance.reply (reply_of r))) none)
          ≡ some (cond (eqb r.kind 1) (Instance.request (request_of r)) (Instance.reply (reply_of r)))
      go true q = rw q
      go false q =
          let f : reply_record (reply_of r) ≡ r = rw q at e in
          rw (reply_kind f)

pub route_means : (r : RouteRow) → route_record (route_in r) ≡ r → route_of r ≡ some (route_in r)
unfolding route_of route_record
route_means r e =
    let k : r.kind ≡ 1 = sym (ap (λ (z : RouteRow). z.kind) e) in
    rw k

-- ---- records after a store

set_or : {A : Type 0} (P : A → Type 0) (l : List A) (i : ℕ) (a d : A) → (i < length l → P a) → (k : ℕ)
    → (get_or (set l i a) k d ≡ get_or l k d) ⊎ P (get_or (set l i a) k d)
set_or P [] i a d h k = inl refl
set_or P (x ∷ l) zero a d h zero = inr (h (omega arith))
set_or P (x ∷ l) zero a d h (suc k) = inl refl
set_or P (x ∷ l) (suc i) a d h zero = inl refl
set_or P (x ∷ l) (suc i) a d h (suc k) = set_or P l i a d (λ q. h (omega arith)) k

pub records_two : (rows : List InstanceRow) (i : ℕ) (j : core.Option ℕ) (one : InstanceRow) (two : core.Option InstanceRow) → record_of (instance_meant one) ≡ one
    → IfSome two (λ r. record_of (instance_meant r) ≡ r) → Records rows (set_at (set rows i one) j two)
records_two rows i (Some j) one None e f k = set_or (λ (z : InstanceRow). record_of (instance_meant z) ≡ z) rows i one no_row (λ _. e) k
records_two rows i None one two e f k = set_or (λ (z : InstanceRow). record_of (instance_meant z) ≡ z) rows i one no_row (λ _. e) k
records_two rows i (Some j) one (Some two) e f k =
    ⊎_elim
    (λ (q : get_or (set (set rows i one) j two) k no_row ≡ get_or (set rows i one) k no_row).
    ⊎_elim (λ (p : get_or (set rows i one) k no_row ≡ get_or rows k no_row). inl (q ∙ p))
    (λ (p : record_of (instance_meant (get_or (set rows i one) k no_row)) ≡ get_or (set rows i one) k no_row).
    inr (subst (λ (z : InstanceRow). record_of (instance_meant z) ≡ z) (sym q) p))
    (set_or (λ (z : InstanceRow). record_of (instance_meant z) ≡ z) rows i one no_row (λ _. e) k))
    (λ p. inr p)
    (set_or (λ (z : InstanceRow). record_of (instance_meant z) ≡ z) (set rows i one) j two no_row (λ _. f) k)

pub records_route : (routes : List RouteRow) (i : core.Option ℕ) (r : core.Option RouteRow) → IfSome r (λ r. route_record (route_in r) ≡ r)
    → RouteRecords routes (set_at routes i r)
records_route routes None r e k = inl refl
records_route routes (Some i) None e k = inl refl
records_route routes (Some i) (Some r) e k = set_or (λ (z : RouteRow). route_record (route_in z) ≡ z) routes i r no_route (λ _. e) k

-- ---- Options

mapped_is : {A B : Type 0} (f : A → B) (o : core.Option A) → is_some (option_map f o) ≡ is_some o
mapped_is f None = refl
mapped_is f (Some a) = refl

-- a reply row's record means it, and is written again for it
second_means : (o : core.Option ReplyFields)
    → IfSome (option_map second_record o) (λ w. IfSome (option_map reply_in o) (λ z. instance_of w ≡ some (Instance.reply z)))
second_means None = tt
second_means (Some f) = reply_back (reply_in f)

second_again : (o : core.Option ReplyFields) → IfSome (option_map second_record o) (λ r. record_of (instance_meant r) ≡ r)
unfolding record_of
second_again None = tt
second_again (Some f) = again (Instance.reply (reply_in f))

hop_means : (o : core.Option RouteRow) → IfSome o (λ r. route_record (route_in r) ≡ r)
    → IfSome o (λ w. IfSome (option_map route_in o) (λ z. route_of w ≡ some z))
hop_means None e = tt
hop_means (Some r) e = route_means r e

-- ---- a refusal

module _ (clock seq t : ℕ) (rows : List InstanceRow) (routes : List RouteRow) (forward reply : List ℕ) where
  refusal_gives : (k : ℕ) (a : Answer) (r : Outcome) → answer_number a ≡ k
      → r ≡ record { answer = a; forward = nothing_sent; reply = nothing_sent; clock = clock; seq = seq }
      → Gives (refused_by k (state_of clock seq rows routes)) rows rows routes routes forward forward reply reply r
  refusal_gives k a r e f = rw f (record {
    answer = e;
    state = refl;
    forward_length = refl;
    reply_length = refl;
    forward_to = refl;
    reply_to = refl;
    forward_octets = refl;
    reply_octets = refl;
    instances = λ i. inl refl;
    hops = λ i. inl refl;
    kept = λ _. (refl, refl);
  })

  pub refused_gives : (k : ℕ) (acc : Accepted) (a : Answer) (r : Outcome) → answer_number a ≡ k → (k ≡ 0 → ⊥)
      → r ≡ record { answer = a; forward = nothing_sent; reply = nothing_sent; clock = clock; seq = seq }
      → Gives (enact t (state_of clock seq rows routes) (decision_of k acc)) rows rows routes routes forward forward reply reply r
  unfolding enact
  refused_gives k acc a r e n f = rw (ne_eqb k 0 n) (refusal_gives k a r e f)

  -- ---- a call that the rules answer 0: 17, or stored and sent

  module _ (x : Settings) (vector : List Address) (acc : Accepted) (l : Live) (d : Decided) (there back : Post)
      (w : Settled x vector acc l d there back) (r : Outcome) where
    -- 17, by the room in both tables
    full_gives : has_room instance_deadline t acc.instances (map instance_of rows) && has_room route_deadline t acc.routes (map route_of routes) ≡ false
        → r ≡ record { answer = NoRow; forward = nothing_sent; reply = nothing_sent; clock = clock; seq = seq }
        → Gives (enact t (state_of clock seq rows routes) (plain.Decision.take acc)) rows rows routes routes forward forward reply reply r
    unfolding enact place
    full_gives e f = rw e (refusal_gives 17 NoRow r refl f)

    module _ (replies : Bool) (er : replies ≡ is_some d.second) (o : core.Option P.Places) (pp : Placed rows t l.row replies o) where
      second_is : is_some (option_map reply_in d.second) ≡ replies
      second_is = mapped_is reply_in d.second ∙ sym er

      rows_room : has_room instance_deadline t acc.instances (map instance_of rows) ≡ is_some o
      rows_room = rw (← w.instances) (sym (pp.room (instance_meant d.row) (option_map reply_in d.second) second_is))

      pub no_row_gives : o ≡ None
          → r ≡ record { answer = NoRow; forward = nothing_sent; reply = nothing_sent; clock = clock; seq = seq }
          → Gives (enact t (state_of clock seq rows routes) (plain.Decision.take acc)) rows rows routes routes forward forward reply reply r
      no_row_gives e f = full_gives (rw (rows_room, e) refl) f

      module _ (routed : Bool) (eu : routed ≡ is_some d.route) (u : core.Option RoutePlace) (qq : RoutePlaced routes t routed l.route u) where
        hop_is : is_some (option_map route_in d.route) ≡ routed
        hop_is = mapped_is route_in d.route ∙ sym eu

        routes_room : has_room route_deadline t acc.routes (map route_of routes) ≡ is_some u
        routes_room = rw (← w.routes) (sym (qq.room (option_map route_in d.route) hop_is))

        pub no_route_gives : u ≡ None
            → r ≡ record { answer = NoRow; forward = nothing_sent; reply = nothing_sent; clock = clock; seq = seq }
            → Gives (enact t (state_of clock seq rows routes) (plain.Decision.take acc)) rows rows routes routes forward forward reply reply r
        no_route_gives e f = full_gives (rw (routes_room, e) (and_false _)) f

        module _ (p : P.Places) (q : RoutePlace) (e : o ≡ Some p) (g : u ≡ Some q) where
          taken_is : enact t (state_of clock seq rows routes) (plain.Decision.take acc)
              ≡ record { answer = 0; sent = acc.sent; state = stored t acc (state_of clock seq rows routes) }
          unfolding enact place
          taken_is = rw (rows_room, routes_room, e, g) refl

          placed_at : Placed rows t l.row replies (Some p)
          placed_at = rw e at pp

          routed_at : RoutePlaced routes t routed l.route (Some q)
          routed_at = rw g at qq

          module _ (rows' : List InstanceRow) (routes' : List RouteRow) (forward' reply' : List ℕ) (n m : ℕ) where
            pub done_gives : rows' ≡ set_at (set rows p.first d.row) p.second (option_map second_record d.second) → routes' ≡ set_at routes q.hop d.route
                → Written (post_octets x there vector) forward forward' n → Written (post_octets x back vector) reply reply' m
                → (forward_to reply_to : code.Destination) → destination_of forward_to ≡ post_to there → destination_of reply_to ≡ post_to back
                → r ≡ record { answer = Done; forward = record { size = n; to = forward_to }; reply = record { size = m; to = reply_to }; clock = t; seq = d.seq }
                → Gives (enact t (state_of clock seq rows routes) (plain.Decision.take acc)) rows rows' routes routes' forward forward' reply reply' r
            done_gives s1 s2 u v forward_to reply_to g1 g2 f =
                rw (taken_is, s1, s2, f) (record {
                  answer = refl;
                  state = λ i. record {
                    clock = t;
                    own = w.own i;
                    instances = (
                        placed_at.stored d.row (option_map second_record d.second) (instance_meant d.row) (option_map reply_in d.second) second_is
                        (mapped_is second_record d.second ∙ sym er) (instance_means d.row w.row) (second_means d.second)
                        ∙ ap (λ z. placed instance_deadline t z (map instance_of rows)) w.instances
                        ) i;
                    routes = (
                        routed_at.stored d.route (option_map route_in d.route) hop_is (sym eu) (hop_means d.route w.route)
                        ∙ ap (λ z. placed route_deadline t z (map route_of routes)) w.routes
                        ) i;
                  };
                  forward_length = u.count ∙ ap length w.forward.sends;
                  reply_length = v.count ∙ ap length w.reply.sends;
                  forward_to = g1 ∙ w.forward.goes;
                  reply_to = g2 ∙ w.reply.goes;
                  forward_octets = u.holds ∙ ap (λ z. over z forward) w.forward.sends;
                  reply_octets = v.holds ∙ ap (λ z. over z reply) w.reply.sends;
                  instances = records_two rows p.first p.second d.row (option_map second_record d.second) w.row (second_again d.second);
                  hops = records_route routes q.hop d.route w.route;
                  kept = λ z. absurd (z refl);
                })
