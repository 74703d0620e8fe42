-- The rules write good rows: at most 8 targets, prefix lengths of at most 127, deadlines of at most 2^41.
use Prim.Native.Nat.{ℕ, zero, suc, ◌+◌, ◌*◌, ◌^◌, ◌≤◌, ◌<◌}
use mathlib.Core.Path.{◌≡◌, refl}
use mathlib.Core.Bool.{Bool, true, false, cond, not}
use mathlib.Core.List.{List, [], ◌∷◌}
use mathlib.Core.Option.{Option, some, none}
use native.Mathlib.Omega.{arith}
use native.Mathlib.Nat.{mul-le-mul, le_refl, le_trans}
use lib.Dec.{eqb, ltb, leb}
use lib.ListN.{length, take, drop}
use borrow.Author.Tests.{ltb-false, le-leb}
use Rattle.plain.specs.Lists.{any}
use Rattle.plain.specs.Address.{Address}
use Rattle.plain.specs.Given.{Settings, Lent, Received, Start, Event, RequestRow, ReplyRow, Instance, Route}
use Rattle.plain.specs.Table.{Numbered, Change, put}
use Rattle.plain.specs.Answers.{answer_of, View, short_prefix, request_for, reply_for, live_reply, requests, replies, bad_start, good_deadline, good_instance, good_route}
use Rattle.plain.specs.Octets.{Opt, Message, options_in, next_option, sized, followed_by, of_type, options_of, configuration_type, configuration_of, default_lifetime, lifetime_unit, same_target, message_of, too_many, most_addresses, most_targets}
use Rattle.plain.specs.Rank.{stepped, row_deadline, lifetime_deadline}
use Rattle.plain.specs.Request.{Accepted, row_of_request, route_of_request, asked_with, asked, replies_now, delta_or0, matches_us, common, row_targets, is_update, targets_kept, kept_deadline, request_row, own_reply_row, route_row, route_change, with_reply_row, accept_request, start_targets, start_row, accept_start}
use Rattle.plain.specs.Reply.{orig_node, dest_seq, partner_number, answered_with, answered, partner_of, reply_row, accept_reply}
use Rattle.plain.specs.Plain.{lines, accept_with, accept_message, accept}
use Rattle.plain.specs.declared.Target.{Target}
use Rattle.plain.specs.declared.Standing.{Standing}
use Rattle.lemmas.proofs.Choice.{cond_case, or_right}
use Rattle.memory.specs.Facts.{ProperEvent}
use Rattle.lemmas.specs.Each.{Each, Octets}
use Rattle.lemmas.proofs.Targets.{Short, targets_short, start_short}
use Rattle.lemmas.proofs.Each.{each_append, each_those, each_take, each_drop, octet_lt, found_case, each_settles, those_less}
use Rattle.memory.proofs.Tables.{Writes}
use Rattle.memory.proofs.Kind.{request_kind, reply_kind_lem, Lasts, found_lasts}
use Rattle.memory.proofs.Lines.{none_of_six, heard, begun, accepted_time}

-- ---- Octets

-- the bodies of options
abbrev Body : Opt → Type 0
Body o = Octets o.body

abbrev Bodies : Option (List Opt) → Type 0
Bodies none = Unit {0}
Bodies (some os) = Each Body os

followed_octets : (o : Opt) (os : Option (List Opt)) → Body o → Bodies os → Bodies (followed_by o os)
followed_octets o none h k = tt
followed_octets o (some os) h k = (h, k)

sized_octets : (rest : List ℕ → Option (List Opt)) (kind : ℕ) (xs : List ℕ) → ((ys : List ℕ) → Octets ys → Bodies (rest ys)) → Octets xs
    → Bodies (sized rest kind xs)
sized_octets rest kind [] f o = tt
sized_octets rest kind (size ∷ xs) f o =
    let read : Opt = record { kind = kind; body = take size xs } in
    cond_case Bodies (leb size (length xs)) (followed_by read (rest (drop size xs))) none
    (λ e. followed_octets read (rest (drop size xs)) (each_take (λ x. x < 256) size xs o.1) (f (drop size xs) (each_drop (λ x. x < 256) size xs o.1)))
    (λ e. tt)

next_octets : (rest : List ℕ → Option (List Opt)) (xs : List ℕ) → ((ys : List ℕ) → Octets ys → Bodies (rest ys)) → Octets xs
    → Bodies (next_option rest xs)
next_octets rest [] f o = tt
next_octets rest (kind ∷ xs) f o =
    cond_case Bodies (eqb kind 0) (rest xs) (sized rest kind xs) (λ e. f xs o.1) (λ e. sized_octets rest kind xs f o.1)

options_octets : (n : ℕ) (xs : List ℕ) → Octets xs → Bodies (options_in n xs)
unfolding options_in
options_octets zero xs o = tt
options_octets (suc n) xs o = next_octets (options_in n) xs (options_octets n) o

type_octets : (kind : ℕ) (os : Option (List Opt)) → Bodies os → Each Body (of_type kind os)
type_octets kind none h = tt
type_octets kind (some os) h = each_those Body (λ (o : Opt). eqb o.kind kind) os h

-- the Configuration
abbrev OctetsIf : Option (List ℕ) → Type 0
OctetsIf none = Unit {0}
OctetsIf (some body) = Octets body

configuration_octets_lem : (os : List Opt) → Each Body os → OctetsIf (configuration_of os)
configuration_octets_lem [] h = tt
configuration_octets_lem (o ∷ os) h = h.0

message_octets : (msg : List ℕ) → Octets msg → OctetsIf (message_of msg).configuration
unfolding message_of
message_octets msg o =
    configuration_octets_lem (of_type configuration_type (options_of msg))
    (type_octets configuration_type (options_of msg) (options_octets (length msg) (drop 24 msg) (each_drop (λ x. x < 256) 24 msg o)))

-- ---- Deadlines

abbrev Deadline : Option ℕ → Type 0
Deadline d = good_deadline d ≡ true

row_deadline_lem : (t l : ℕ) → t ≤ 2 ^ 40 → Deadline (row_deadline t l)
unfolding row_deadline
row_deadline_lem t l h = go (eqb l 0) (eqb l 1) (eqb l 2)
  where
    go : (a b c : Bool) → Deadline (cond a none (some (t + cond b 16000 (cond c 64000 256000))))
    go true b c = refl
    go false true c = le-leb (t + 16000) (2 ^ 41) (omega arith)
    go false false true = le-leb (t + 64000) (2 ^ 41) (omega arith)
    go false false false = le-leb (t + 256000) (2 ^ 41) (omega arith)

lifetime_deadline_lem : (t : ℕ) (configuration : Option (List ℕ)) → t ≤ 2 ^ 40 → OctetsIf configuration → Deadline (lifetime_deadline t configuration)
unfolding lifetime_deadline
lifetime_deadline_lem t none h o = refl
lifetime_deadline_lem t (some body) h o = go (eqb (default_lifetime body) 255)
  where
    units : lifetime_unit body ≤ 65535
    units = omega (arith, octet_lt body 12 o, octet_lt body 13 o)

    number : default_lifetime body ≤ 255
    number = omega (arith, octet_lt body 11 o)

    lasting : default_lifetime body * lifetime_unit body ≤ 255 * 65535
    lasting = mul-le-mul number units

    go : (b : Bool) → Deadline (cond b none (some (t + default_lifetime body * lifetime_unit body * 1000)))
    go true = refl
    go false = le-leb (t + default_lifetime body * lifetime_unit body * 1000) (2 ^ 41) (omega (arith, lasting))

-- "the deadline stays" in an update; else it is from L
chosen_deadline : (b : Bool) (old : Option ℕ) (t l : ℕ) → t ≤ 2 ^ 40 → Deadline old → Deadline (cond b old (row_deadline t l))
chosen_deadline true old t l h g = g
chosen_deadline false old t l h g = row_deadline_lem t l h

-- ---- Targets

-- a message's targets that are kept
kept_short : (x : Settings) (st : Standing) (row : Option (Numbered RequestRow)) (ts : List Target) → Each Short ts
    → Each Short (targets_kept x st row ts)
unfolding targets_kept common
kept_short x st row ts g =
    each_those Short (λ (t : Target). not (matches_us x t)) (cond (is_update st) (common ts (row_targets row)) ts)
    (cond_case (Each Short) (is_update st) (common ts (row_targets row)) ts
    (λ e. each_those Short (λ (t : Target). any (same_target t) (row_targets row)) ts g) (λ e. g))

kept_less : (x : Settings) (st : Standing) (row : Option (Numbered RequestRow)) (ts : List Target) → length (targets_kept x st row ts) ≤ length ts
unfolding targets_kept common
kept_less x st row ts =
    le_trans (those_less (λ (t : Target). not (matches_us x t)) (cond (is_update st) (common ts (row_targets row)) ts))
    (cond_case (λ (us : List Target). length us ≤ length ts) (is_update st) (common ts (row_targets row)) ts
    (λ e. those_less (λ (t : Target). any (same_target t) (row_targets row)) ts) (λ e. le_refl (length ts)))

-- ---- The live rows that are seen

abbrev pub GoodInstance : Instance → Type 0
GoodInstance r = good_instance r ≡ true

abbrev pub GoodRoute : Route → Type 0
GoodRoute r = good_route r ≡ true

abbrev pub GoodView : View → Type 0
GoodView v = Each (λ (n : Numbered Instance). GoodInstance n.row) v.instances

-- ---- Rows

request_row_lem : (r : RequestRow) → length r.targets ≤ 8 → Each Short r.targets → Deadline r.deadline → GoodInstance (Instance.request r)
unfolding good_instance
request_row_lem r h g d =
    rw (le-leb (length r.targets) most_targets h, each_settles false short_prefix r.targets g, d)

reply_row_lem : (r : ReplyRow) → Deadline r.deadline → GoodInstance (Instance.reply r)
unfolding good_instance
reply_row_lem r d = d

route_row_lem : (t : ℕ) (source destination : Address) (instance : ℕ) (next_hop : Address) (seq : ℕ) (configuration : Option (List ℕ)) → t ≤ 2 ^ 40
    → OctetsIf configuration → GoodRoute (route_row t source destination instance next_hop seq configuration)
unfolding good_route route_row
route_row_lem t source destination instance next_hop seq configuration h o = lifetime_deadline_lem t configuration h o

-- ---- Changes

put_writes : {A B : Type 0} (P : A → Type 0) (o : Option (Numbered B)) (r : A) → P r → Writes P (put o r)
put_writes P none r g = (tt, (g, tt))
put_writes P (some n) r g = ((g, tt), tt)

route_writes : (h : Bool) (o : Option (Numbered Route)) (r : Route) → GoodRoute r → Writes GoodRoute (route_change h o r)
unfolding route_change
route_writes true o r g = put_writes GoodRoute o r g
route_writes false o r g = (tt, tt)

with_reply_writes : (change : Change Instance) (b : Bool) (r : ReplyRow) → Writes GoodInstance change → GoodInstance (Instance.reply r)
    → Writes GoodInstance (with_reply_row change b r)
unfolding with_reply_row
with_reply_writes change true r w g = (w.0, each_append GoodInstance change.new (Instance.reply r ∷ []) w.1 (g, tt))
with_reply_writes change false r w g = w

-- ---- What an accepted call writes

abbrev pub WritesGood : Accepted → Type 0
WritesGood a = Writes GoodInstance a.instances × Writes GoodRoute a.routes

-- what is known of a message that no line refuses
record Fit (m : Message) : Type 0 where
  count : length m.targets ≤ 8
  targets : Each Short m.targets
  configuration : OctetsIf m.configuration

fit : (msg : List ℕ) → Octets msg → too_many (message_of msg) ≡ false → Fit (message_of msg)
unfolding too_many
fit msg o e = record {
  count =
      ltb-false most_targets (length (message_of msg).targets)
      (or_right (ltb most_addresses (length (message_of msg).vector)) (ltb most_targets (length (message_of msg).targets)) e);
  targets = targets_short msg;
  configuration = message_octets msg o;
}

module _ (x : Settings) (v : View) (t : ℕ) (h : t ≤ 2 ^ 40) (g : GoodView v) where
  request_writes : (c : Received) (m : Message) → Fit m → WritesGood (accept_request x v.own t c m (asked x v t c m))
  unfolding accept_request asked asked_with request_row own_reply_row kept_deadline
  request_writes c m f = (
    with_reply_writes (put (row_of_request v t m) (Instance.request row)) (replies_now (asked x v t c m)) own
        (put_writes GoodInstance (row_of_request v t m) (Instance.request row)
        (request_row_lem row (le_trans (kept_less x st (row_of_request v t m) m.targets) f.count)
        (kept_short x st (row_of_request v t m) m.targets f.targets)
        (found_case (Lasts request_kind) (λ o. Deadline (kept_deadline (λ (r : RequestRow). r.deadline) st o t m.discovery.l)) test (requests v.instances) (row_of_request v t m)
        (row_deadline_lem t m.discovery.l h) (λ n k. chosen_deadline (is_update st) n.row.deadline t m.discovery.l h k)
        (found_lasts request_kind test v.instances g))))
        (reply_row_lem own (row_deadline_lem t m.discovery.l h)),
    route_writes m.discovery.h (route_of_request x v t m)
        (route_row t x.receiving m.base.dodagid m.base.instance c.neighbour m.discovery.number m.configuration)
        (route_row_lem t x.receiving m.base.dodagid m.base.instance c.neighbour m.discovery.number m.configuration h
        f.configuration),
  )
    where
      row : RequestRow
      row = request_row t c m (asked x v t c m)

      own : ReplyRow
      own = own_reply_row x t (stepped v.own) m (delta_or0 (asked x v t c m).delta)

      st : Standing
      st = (asked x v t c m).standing

      test : Numbered RequestRow → Bool
      test n = request_for t m.base.instance m.base.dodagid n.row

  reply_writes : (c : Received) (m : Message) (p : RequestRow) → Fit m → WritesGood (accept_reply x v.own t c m (answered x v t c m p))
  unfolding accept_reply answered answered_with reply_row kept_deadline
  reply_writes c m p f = (
    put_writes GoodInstance live (Instance.reply (reply_row t m (answered x v t c m p)))
        (reply_row_lem (reply_row t m (answered x v t c m p))
        (found_case (Lasts reply_kind_lem) (λ o. Deadline (kept_deadline (λ (r : ReplyRow). r.deadline) (answered x v t c m p).standing o t m.discovery.l)) test
        (replies v.instances) live (row_deadline_lem t m.discovery.l h)
        (λ n k. chosen_deadline (is_update (answered x v t c m p).standing) n.row.deadline t m.discovery.l h k)
        (found_lasts reply_kind_lem test v.instances g))),
    route_writes m.discovery.h (answered x v t c m p).route
        (route_row t (orig_node m) m.base.dodagid (partner_number m) c.neighbour (dest_seq m) m.configuration)
        (route_row_lem t (orig_node m) m.base.dodagid (partner_number m) c.neighbour (dest_seq m) m.configuration h f.configuration),
  )
    where
      live : Option (Numbered ReplyRow)
      live = live_reply v t m.base.instance m.base.dodagid

      test : Numbered ReplyRow → Bool
      test n = reply_for t m.base.instance m.base.dodagid n.row

  with_writes : (c : Received) (m : Message) (p : Option (Numbered RequestRow)) → Fit m → WritesGood (accept_with x c m v t p)
  with_writes c m none f = ((tt, tt), (tt, tt))
  with_writes c m (some p) f = reply_writes c m p.row f

  message_writes : (c : Received) (m : Message) → Fit m → WritesGood (accept_message x v t c m)
  unfolding accept_message
  message_writes c m f =
      cond_case WritesGood m.discovery.reply (accept_with x c m v t (partner_of v t m)) (accept_request x v.own t c m (asked x v t c m))
      (λ e. with_writes c m (partner_of v t m) f) (λ e. request_writes c m f)

  start_writes : (c : Start) → bad_start c (start_targets c) ≡ false → WritesGood (accept_start x v.own t c (start_targets c))
  unfolding accept_start start_row bad_start
  start_writes c e =
      let k =
      none_of_six (eqb (length (start_targets c)) 0) (ltb most_targets (length (start_targets c))) (any (λ (t : Target). ltb 127 t.plen) c.targets)
      (ltb 3 c.l) (ltb 15 c.compr) (ltb 127 c.limit) e in (
        (
          tt,
          (
            request_row_lem (start_row x t (stepped v.own) c (start_targets c)) (ltb-false most_targets (length (start_targets c)) k.1)
                (start_short c k.2)
                (row_deadline_lem t c.l h),
            tt,
          ),
        ),
        (tt, tt),
      )

pub accept_writes : (x : Settings) (good : Bool) (v : View) (c : Lent) (e : Event) → ProperEvent e → GoodView v → answer_of (lines x good v c e) ≡ 0
    → WritesGood (accept x v c e)
unfolding accept
accept_writes x good v c (Event.message r) o g e =
    message_writes x v c.time (accepted_time x good v c (Event.message r) e).1 g r (message_of r.octets)
    (fit r.octets o (heard x good v c r e).1)
accept_writes x good v c (Event.start s) o g e =
    start_writes x v c.time (accepted_time x good v c (Event.start s) e).1 g s (begun x good v c s e).1
