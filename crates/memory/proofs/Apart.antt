-- The rules keep keys apart: no two live rows of a table have the same key.
use Prim.Native.Nat.{ℕ, zero, suc, ◌≤◌}
use mathlib.Core.Path.{◌≡◌, refl, sym, ap, ◌∙◌}
use mathlib.Core.Bool.{Bool, true, false, cond, ◌&&◌}
use mathlib.Core.List.{List}
use mathlib.Core.Option.{Option, some, none}
use native.Mathlib.Omega.{arith}
use lib.Dec.{eqb}
use borrow.Author.Tests.{eqb-true, eq-eqb, not-false}
use Rattle.plain.specs.Lists.{same, given, first_of}
use Rattle.plain.specs.Given.{Settings, Lent, Received, Start, Event, RequestRow, ReplyRow, Instance, Route, State}
use Rattle.plain.specs.Table.{Numbered, Change, put, lasts, instance_deadline, route_deadline}
use Rattle.plain.specs.Answers.{answer_of, view_of, as_reply, of_kind, replies, route_for, live_request, live_route}
use Rattle.plain.specs.Octets.{Message, message_of}
use Rattle.plain.specs.Rank.{stepped}
use Rattle.plain.specs.Request.{Asked, Accepted, row_of_request, least_delta, delta_taken, free_delta, asked_with, asked, replies_now, request_lines, request_row, own_reply_row, route_row, route_change, with_reply_row, delta_or0, accept_request, start_targets, start_lines, start_row, accept_start}
use Rattle.plain.specs.Reply.{orig_node, dest_seq, partner_number, partner_of, answered_with, answered, reply_row, accept_reply}
use Rattle.plain.specs.Plain.{lines_with, message_lines, lines, accept_with, accept_message, accept}
use Rattle.plain.specs.declared.Target.{Target}
use Rattle.lemmas.proofs.Choice.{true_false, and_left, and_right, and_both}
use Rattle.lemmas.proofs.Same.{same_equal}
use Rattle.lemmas.proofs.Rules.{unheld, every_kind}
use Rattle.lemmas.specs.Each.{Each}
use Rattle.lemmas.proofs.Each.{any_none}
use Rattle.memory.proofs.Tables.{Rows}
use Rattle.memory.proofs.Lines.{heard, begun}
use Rattle.memory.proofs.Keys.{Key, instance_key, route_key, key_path, eq_same, Other, Keyed, Tells, none_kept, new_more, free_found, put_keyed}
use Rattle.memory.proofs.Kind.{Kind, request_kind, reply_kind_lem, other_kind, row_for, tells}

-- ---- The tests by which rows are looked for tell their keys

tells_route : (t : ℕ) (q : Route)
    → Tells route_deadline route_key some (λ (n : Numbered Route). route_for t q.source q.destination q.instance n.row) q t
tells_route t q = record { hit = λ i r. ((refl, hit r), tt); miss = λ i r k. miss r k.0 }
  where
    hit : (r : Route) → route_for t q.source q.destination q.instance r ≡ true → route_key q ≡ route_key r
    hit r e =
        let a : Bool = same r.source q.source in
        let b : Bool = same r.destination q.destination in
        let c : Bool = eqb r.instance q.instance in
        let k = and_left (a && b && c) (lasts t r.deadline) e in
        let j = and_left (a && b) c k in
        key_path 2 q.instance r.instance q.source r.source q.destination r.destination
        (sym (eqb-true r.instance q.instance (and_right (a && b) c k))) (sym (same_equal r.source q.source (and_left a b j)))
        (sym (same_equal r.destination q.destination (and_right a b j)))

    miss : (r : Route) → route_for t q.source q.destination q.instance r ≡ false → Other route_deadline route_key t (route_key q) r
    miss r e l z =
        let a : Bool = same r.source q.source in
        let b : Bool = same r.destination q.destination in
        let c : Bool = eqb r.instance q.instance in
        true_false (sym (and_both (a && b && c) (lasts t r.deadline) (and_both (a && b) c
        (and_both a b (eq_same r.source q.source (ap (λ (y : Key). y.one) z))
        (eq_same r.destination q.destination (ap (λ (y : Key). y.other) z)))
        (eq-eqb r.instance q.instance (ap (λ (y : Key). y.number) z))) l) ∙ e)

-- ---- What an accepted call does to keys

module _ (s : State) (t : ℕ) (h : s.clock ≤ t) where
  abbrev Instances : Change Instance → Type 0
  Instances change = Keyed instance_deadline instance_key t change s.instances

  abbrev Routes : Change Route → Type 0
  Routes change = Keyed route_deadline route_key t change s.routes

  abbrev pub KeysApart : Accepted → Type 0
  KeysApart a = Instances a.instances × Routes a.routes

  kind_put : (K : Kind) (q : K.Row) → Instances (put (first_of (row_for K t q) (of_kind K.part (view_of s).instances)) (K.whole q))
  kind_put K q =
      put_keyed instance_deadline instance_key K.part (row_for K t q) (K.whole q) s.clock t s.instances (tells K t q) h

  route_put : (q : Route) → Routes (put (live_route (view_of s) t q.source q.destination q.instance) q)
  route_put q =
      rw (every_kind (view_of s).routes)
      (put_keyed route_deadline route_key some (λ (n : Numbered Route). route_for t q.source q.destination q.instance n.row) q
      s.clock t s.routes (tells_route t q) h)

  route_change_lem : (b : Bool) (q : Route) → Routes (route_change b (live_route (view_of s) t q.source q.destination q.instance) q)
  unfolding route_change
  route_change_lem true q = route_put q
  route_change_lem false q = (none_kept route_deadline route_key 0 s.routes, tt)

  -- a reply
  with_apart : (x : Settings) (c : Received) (m : Message) (p : Option (Numbered RequestRow)) → KeysApart (accept_with x c m (view_of s) t p)
  unfolding accept_reply answered answered_with reply_row route_row
  with_apart x c m none = ((none_kept instance_deadline instance_key 0 s.instances, tt), (none_kept route_deadline route_key 0 s.routes, tt))
  with_apart x c m (some p) = (
    kind_put reply_kind_lem (reply_row t m (answered x (view_of s) t c m p.row)),
    route_change_lem m.discovery.h (route_row t (orig_node m) m.base.dodagid (partner_number m) c.neighbour (dest_seq m) m.configuration),
  )

  -- ---- A request

  -- a Delta that is found is free
  abbrev Least : (ℕ → Bool) → Option ℕ → Type 0
  Least taken none = Unit {0}
  Least taken (some d) = taken d ≡ false

  least : (taken : ℕ → Bool) (d n : ℕ) → Least taken (least_delta taken d n)
  unfolding least_delta
  least taken d zero = tt
  least taken d (suc n) = go (taken d) refl (least taken (suc d) n)
    where
      go : (b : Bool) → taken d ≡ b → Least taken (least_delta taken (suc d) n) → Least taken (cond b (least_delta taken (suc d) n) (some d))
      go true e k = k
      go false e k = e

  -- so no live row has our reply row's key
  own_free : (x : Settings) (own : ℕ) (m : Message) (o : Option ℕ) → given o ≡ true
      → Least (delta_taken (view_of s) t m.base.instance x.receiving) o
      → Rows (Other instance_deadline instance_key t (instance_key (Instance.reply (own_reply_row x t own m (delta_or0 o))))) s.instances
  unfolding delta_taken own_reply_row
  own_free x own m none e k = true_false (sym e)
  own_free x own m (some d) e k =
      let q : ReplyRow = own_reply_row x t own m d in
      free_found instance_deadline instance_key as_reply (row_for reply_kind_lem t q) (Instance.reply q) s.clock t s.instances (tells reply_kind_lem t q) h
      (any_none (row_for reply_kind_lem t q) (replies (view_of s).instances) k)

  -- the new rows of a request row put are request rows
  put_kind : {B : Type 0} (o : Option (Numbered B)) (q : RequestRow) (r : ReplyRow)
      → Each (λ (n : Instance). instance_key (Instance.reply r) ≡ instance_key n → ⊥) (put o (Instance.request q)).new
  put_kind none q r = (other_kind (instance_key (Instance.reply r)) (instance_key (Instance.request q)) (omega arith), tt)
  put_kind (some n) q r = tt

  with_reply : {B : Type 0} (o : Option (Numbered B)) (q : RequestRow) (b : Bool) (r : ReplyRow) → Instances (put o (Instance.request q))
      → (b ≡ true → Rows (Other instance_deadline instance_key t (instance_key (Instance.reply r))) s.instances)
      → Instances (with_reply_row (put o (Instance.request q)) b r)
  unfolding with_reply_row
  with_reply o q true r w g = (
    w.0,
    new_more instance_deadline instance_key t (put o (Instance.request q)).new (Instance.reply r) s.instances w.1 (put_kind o q r)
        (g refl),
  )
  with_reply o q false r w g = w

  -- 15 is not answered
  delta_given : (x : Settings) (c : Received) (m : Message) (a : Asked) → answer_of (request_lines x c m a) ≡ 0 → replies_now a ≡ true
      → given a.delta ≡ true
  unfolding request_lines
  delta_given x c m a e r =
      let k1 = unheld _ _ e (omega arith) in
      let k2 = unheld _ _ k1.1 (omega arith) in
      let k3 = unheld _ _ k2.1 (omega arith) in
      let k4 = unheld _ _ k3.1 (omega arith) in
      let k5 = unheld _ _ k4.1 (omega arith) in
      let k6 = unheld _ _ k5.1 (omega arith) in
      let k7 = unheld _ _ k6.1 (omega arith) in
      not-false (given a.delta) (rw r at k7.0)

  request_apart : (x : Settings) (c : Received) (m : Message) → answer_of (request_lines x c m (asked x (view_of s) t c m)) ≡ 0
      → KeysApart (accept_request x s.own t c m (asked x (view_of s) t c m))
  unfolding accept_request asked asked_with request_row route_row free_delta
  request_apart x c m e = (
    with_reply (row_of_request (view_of s) t m) (request_row t c m (asked x (view_of s) t c m)) (replies_now (asked x (view_of s) t c m))
        (own_reply_row x t (stepped s.own) m (delta_or0 (free_delta (view_of s) t m.base.instance x.receiving)))
        (kind_put request_kind (request_row t c m (asked x (view_of s) t c m)))
        (λ r. own_free x (stepped s.own) m (free_delta (view_of s) t m.base.instance x.receiving)
        (delta_given x c m (asked x (view_of s) t c m) e r)
        (least (delta_taken (view_of s) t m.base.instance x.receiving) 0 64)),
    route_change_lem m.discovery.h
        (route_row t x.receiving m.base.dodagid m.base.instance c.neighbour m.discovery.number m.configuration),
  )

  message_apart : (x : Settings) (c : Received) (m : Message) → answer_of (message_lines x (view_of s) t c m) ≡ 0
      → KeysApart (accept_message x (view_of s) t c m)
  unfolding message_lines accept_message
  message_apart x c m e = go m.discovery.reply e
    where
      go : (b : Bool) → answer_of (cond b (lines_with x c m (view_of s) t (partner_of (view_of s) t m)) (request_lines x c m (asked x (view_of s) t c m))) ≡ 0
          → KeysApart (cond b (accept_with x c m (view_of s) t (partner_of (view_of s) t m)) (accept_request x s.own t c m (asked x (view_of s) t c m)))
      go true e = with_apart x c m (partner_of (view_of s) t m)
      go false e = request_apart x c m e

  -- ---- A start

  -- 14 is not answered
  start_apart : (x : Settings) (c : Start) (targets : List Target) → answer_of (start_lines x (view_of s) t c) ≡ 0
      → KeysApart (accept_start x s.own t c targets)
  unfolding start_lines accept_start start_row
  start_apart x c targets e =
      let k1 = unheld _ _ e (omega arith) in
      let k2 = unheld _ _ k1.1 (omega arith) in
      ((none_kept instance_deadline instance_key 0 s.instances, (new k2.0, tt, tt)), (none_kept route_deadline route_key 0 s.routes, tt))
    where
      q : RequestRow
      q = start_row x t (stepped s.own) c targets

      new : given (live_request (view_of s) t c.instance x.receiving) ≡ false
          → Rows (Other instance_deadline instance_key t (instance_key (Instance.request q))) s.instances
      new g = go (live_request (view_of s) t q.instance q.dodagid) (kind_put request_kind q) g
        where
          go : (o : Option (Numbered RequestRow)) → Instances (put o (Instance.request q)) → given o ≡ false
              → Rows (Other instance_deadline instance_key t (instance_key (Instance.request q))) s.instances
          go none w g = w.1.0
          go (some n) w g = true_false g

pub accept_apart : (x : Settings) (good : Bool) (s : State) (c : Lent) (e : Event) → answer_of (lines x good (view_of s) c e) ≡ 0
    → (h : s.clock ≤ c.time)
    → KeysApart s c.time h (accept x (view_of s) c e)
unfolding accept
accept_apart x good s c (Event.message r) e h = message_apart s c.time h x r (message_of r.octets) (heard x good (view_of s) c r e).2
accept_apart x good s c (Event.start b) e h = start_apart s c.time h x b (start_targets b) (begun x good (view_of s) c b e).2
