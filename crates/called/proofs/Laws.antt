-- From the tests of a public call to what the plain node answers.
use Prim.Native.Nat.{ℕ, ◌-◌, ◌/◌, ◌≤◌, ◌<◌}
use mathlib.Core.Path.{◌≡◌, refl, sym, ap, ap₂, ◌∙◌}
use mathlib.Core.Bool.{Bool, true, false, cond, ◌||◌}
use mathlib.Core.List.{List, [], map}
use mathlib.Core.Option.{Option, some, none}
use native.Mathlib.Omega.{arith}
use lib.Dec.{eqb}
use lib.ListN.{length, take, drop}
use borrow.Author.Tests.{lt-ltb, le-ltb}
use Rattle.lemmas.proofs.Rules.{lent_bounds}
use Rattle.lemmas.proofs.Choice.{true_false, and_left}
use Rattle.plain.specs.Lists.{any_two}
use Rattle.plain.specs.Address.{Address}
use Rattle.plain.specs.Given.{Settings, Lent, Received, RequestRow, Event, Call, State}
use Rattle.plain.specs.Table.{Numbered}
use Rattle.plain.specs.Octets.{Message, hear, message_of, restored}
use Rattle.plain.specs.Answers.{Line, View, view_of, bad_lent, long_message, bad_start, good_instance, good_route, all_good, good_state, wrong_state, requests, replies, request_twins, reply_twins, route_twins, answer_of}
use Rattle.plain.specs.Request.{Accepted, ours, asked_with, asked, request_lines, accept_request, forwarded_request, reply_message, request_row, start_targets, start_lines}
use Rattle.plain.specs.Reply.{partner_of, answered_with, answered, reply_lines, accept_reply}
use Rattle.plain.specs.Plain.{lines, message_lines, lines_with, accept, accept_message, accept_with, decide, enact, step}
use Rattle.answer.specs.Answer.{answer_number}
use Rattle.answer.specs.declared.Answer.{Answer}
use Rattle.answer.specs.declared.Answer.TheVariants.{BadCall, WrongState, OwnDodagid}
use Rattle.row.specs.Meaning.{instance_of, route_of}
use Rattle.row.specs.declared.InstanceRow.{InstanceRow}
use Rattle.row.specs.declared.RouteRow.{RouteRow}
use Rattle.message.specs.Message.{message_in, received_by}
use Rattle.message.specs.declared.Link.{Link}
use Rattle.message.specs.declared.Parsed.{Parsed}
use Rattle.reader.specs.Reading.{refusal_number, heard_from, Bounded}
use Rattle.std.specs.Prelude.{Ok, Err}
use Rattle.reader.specs.declared.Reading.{Reading}
use Rattle.reader.specs.declared.Refusal.{Refusal}
use Rattle.heard.specs.Parsed.{parsed_of}
use Rattle.heard.proofs.Laws.{message_is, reply_is, base_is, heard_sound, first_lines, first_lent, first_own, first_wrong, first_none, refused_some, lines_refused, lines_heard}
use Rattle.outcome.specs.Nothing.{nothing_sent}
use Rattle.finish.specs.Gives.{state_of, decision_of, Gives}
use Rattle.outcome.specs.declared.Outcome.{Outcome}
use Rattle.finish.proofs.Laws.{refused_gives}
use Rattle.own.specs.Settings.{settings_of}
use Rattle.own.specs.declared.Own.{Own}
use Rattle.bad_call.specs.Lent.{lent_by}
use Rattle.rule.specs.Taken.{Taken}
use Rattle.request_taken.specs.Decision.{request_decision}
use Rattle.reply_taken.specs.Decision.{reply_decision}
use Rattle.start_taken.specs.Taken.{TakenStart, start_decision}
use Rattle.plain.specs.declared.Target.{Target}
use Rattle.targets.specs.declared.Targets.{Targets}
use Rattle.kept.specs.Kept.{list_of}
use Rattle.gather.specs.Gathers.{Gathers}
use Rattle.gather.specs.declared.Gathering.{Gathering}
use Rattle.bad_start.specs.Judged.{Fit}
use Rattle.bad_start.proofs.Judge.{fit}
use Rattle.start.specs.Start.{start_of}
use Rattle.start.specs.declared.Asking.{Asking}
use Rattle.called.specs.Calls.{message_call, start_call}

-- ---- any call

-- what it is handed beside its event
pub record Handed : Type 0 where
  pub settings : Settings
  pub clock : ℕ
  pub seq : ℕ
  pub time : ℕ
  pub rows : List InstanceRow
  pub routes : List RouteRow
  pub forward : List ℕ
  pub reply : List ℕ

-- the arguments of a public call
abbrev pub handed : Own → (clock seq time : ℕ) → List InstanceRow → List RouteRow → (forward reply : List ℕ) → Handed
handed o clock seq time rows routes forward reply = record {
  settings = settings_of o;
  clock = clock;
  seq = seq;
  time = time;
  rows = rows;
  routes = routes;
  forward = forward;
  reply = reply;
}

abbrev from : Handed → State
from h = state_of h.clock h.seq h.rows h.routes

abbrev lent_in : Handed → Lent
lent_in h = lent_by h.time (length h.forward) (length h.reply)

-- 1, asked of what is lent
abbrev pub is_bad : Handed → Bool
is_bad h = bad_lent h.settings h.clock (lent_in h)

-- 1, asked of what the event brings
abbrev pub is_bad_event : Event → Bool
is_bad_event (Event.message r) = long_message r.octets
is_bad_event (Event.start s) = bad_start s (start_targets s)

-- 2
abbrev pub is_wrong : Handed → Bool
is_wrong h = wrong_state (good_state (from h)) (view_of (from h))

-- what is known of a call that neither 1 nor 2 refuses
pub record Admitted (h : Handed) (e : Event) : Type 0 where
  pub lent : is_bad h ≡ false
  pub event : is_bad_event e ≡ false
  pub state : is_wrong h ≡ false

-- `bad` and `wrong` are what the code has been told of 1 and 2
pub admit : {h : Handed} {e : Event} {bad wrong : Bool} → bad ≡ is_bad h → bad ≡ false → is_bad_event e ≡ false → wrong ≡ is_wrong h → wrong ≡ false
    → Admitted h e
admit b not_bad event w not_wrong = record { lent = sym b ∙ not_bad; event = event; state = sym w ∙ not_wrong }

-- a state that is not 2: each row is good
good_is : (good : Bool) (v : View) → wrong_state good v ≡ false → good ≡ true
unfolding wrong_state
good_is true v e = refl
good_is false v e = go (eqb v.own 0) e
  where
    go : (b : Bool)
        → b || true || any_two request_twins (requests v.instances) || any_two reply_twins (replies v.instances) || any_two route_twins v.routes ≡ false
        → false ≡ true
    go true e = true_false e
    go false e = true_false e

-- ---- a reply's lines and outcome, and that the octets that it came in play no part

module _ (x : Settings) (v : View) (t : ℕ) (c : Received) (m : Message) (y : m.discovery.reply ≡ true) where
  reply_lines_lem : message_lines x v t c m ≡ lines_with x c m v t (partner_of v t m)
  unfolding message_lines
  reply_lines_lem = ap (λ (b : Bool). cond b (lines_with x c m v t (partner_of v t m)) (request_lines x c m (asked x v t c m))) y

  reply_accept : accept_message x v t c m ≡ accept_with x c m v t (partner_of v t m)
  unfolding accept_message
  reply_accept = ap (λ (b : Bool). cond b (accept_with x c m v t (partner_of v t m)) (accept_request x v.own t c m (asked x v t c m))) y

reply_apart : (x : Settings) (s : State) (t : ℕ) (k : Link) (octets : List ℕ) (m : Message)
    → enact t s (decision_of (answer_of (lines_with x (received_by k octets) m (view_of s) t (partner_of (view_of s) t m))) (accept_with x (received_by k octets) m (view_of s) t (partner_of (view_of s) t m)))
    ≡ enact t s (reply_decision x s t (received_by k []) m)
unfolding reply_decision answered answered_with reply_lines accept_reply
reply_apart x s t k octets m = same (partner_of (view_of s) t m)
  where
    same : (w : Option (Numbered RequestRow))
        → enact t s (decision_of (answer_of (lines_with x (received_by k octets) m (view_of s) t w)) (accept_with x (received_by k octets) m (view_of s) t w))
        ≡ enact t s (decision_of (answer_of (lines_with x (received_by k []) m (view_of s) t w)) (accept_with x (received_by k []) m (view_of s) t w))
    same none = refl
    same (some n) = refl

-- ---- the lines that every call is asked first

abbrev lines_of : Handed → Event → List Line
lines_of h e = lines h.settings (good_state (from h)) (view_of (from h)) (lent_in h) e

abbrev answer_to : Handed → Event → ℕ
answer_to h e = answer_of (lines_of h e)

first : (h : Handed) (e : Event) → lines_of h e ≡ first_lines (is_bad h) (is_bad_event e) (is_wrong h) (drop 3 (lines_of h e))
unfolding lines
first h (Event.message r) = refl
first h (Event.start s) = refl

-- what is returned of a call that is refused
abbrev refused_with : Handed → Answer → Outcome
refused_with h a = record { answer = a; forward = nothing_sent; reply = nothing_sent; clock = h.clock; seq = h.seq }

-- that this is what the plain node gives, with nothing written
abbrev Refused : Handed → Event → Outcome → Type 0
Refused h e r =
    Gives (step h.settings (from h) (record { lent = lent_in h; event = e })) h.rows h.rows h.routes h.routes h.forward h.forward
    h.reply h.reply r

module _ (h : Handed) (e : Event) where
  -- what the plain node does with it
  called : step h.settings (from h) (record { lent = lent_in h; event = e })
      ≡ enact h.time (from h) (decision_of (answer_to h e) (accept h.settings (view_of (from h)) (lent_in h) e))
  unfolding step decide
  called = refl

  module _ (a : Answer) (r : Outcome) where
    refusal : (n : ℕ) → answer_to h e ≡ n → (n ≡ 0 → ⊥) → answer_number a ≡ n → r ≡ refused_with h a → Refused h e r
    refusal n z u v w =
        rw (called, z)
        (refused_gives h.clock h.seq h.time h.rows h.routes h.forward h.reply n (accept h.settings (view_of (from h)) (lent_in h) e) a r v u w)

    pub bad_lent_lem : is_bad h ≡ true → a ≡ BadCall → r ≡ refused_with h a → Refused h e r
    bad_lent_lem z b w = refusal 1 (ap answer_of (first h e) ∙ first_lent (is_bad h) _ _ _ z) (λ q. absurd (omega arith)) (ap answer_number b) w

    module _ (lent : is_bad h ≡ false) where
      pub bad_event : is_bad_event e ≡ true → a ≡ BadCall → r ≡ refused_with h a → Refused h e r
      bad_event z b w =
          refusal 1 (ap answer_of (first h e) ∙ first_own (is_bad h) (is_bad_event e) _ _ lent z) (λ q. absurd (omega arith)) (ap answer_number b) w

      pub wrong_state_lem : is_bad_event e ≡ false → is_wrong h ≡ true → a ≡ WrongState → r ≡ refused_with h a → Refused h e r
      wrong_state_lem event z b w =
          refusal 2 (ap answer_of (first h e) ∙ first_wrong (is_bad h) (is_bad_event e) (is_wrong h) _ lent event z) (λ q. absurd (omega arith))
          (ap answer_number b) w

-- ---- a message

pub short : (octets : List ℕ) → length octets ≤ 1236 → long_message octets ≡ false
unfolding long_message
short octets z = le-ltb 1236 (length octets) z

pub long : (octets : List ℕ) → 1236 < length octets → long_message octets ≡ true
unfolding long_message
long octets z = lt-ltb 1236 (length octets) z

-- what is known of a message that was read, where none of 1 to 6 refuses it
pub record Read (h : Handed) (k : Link) (octets : List ℕ) (r : Reading) : Type 0 where
  pub admitted : Admitted h (Event.message (received_by k octets))
  pub heard : heard_from octets (Ok r) ≡ hear octets
  pub bounded : Bounded (length octets) r

-- and where 7 does not either: it is parsed, and its vector restored
pub record Understood (h : Handed) (k : Link) (octets : List ℕ) (r : Reading) (p : Parsed) (v : List Address) : Type 0 where
  pub read : Read h k octets r
  pub foreign : ours h.settings r.base.dodagid ≡ false
  pub parsed : p ≡ parsed_of r
  pub vector : take (r.size / (16 - r.discovery.compr)) v ≡ restored r.discovery.compr r.base.dodagid (take r.size (drop r.at octets))

-- the octets are refused, or the message is read
module _ {h : Handed} {k : Link} {octets : List ℕ} (q : Admitted h (Event.message (received_by k octets))) where
  pub octets_refused : (why : Refusal) → heard_from octets (Err why) ≡ hear octets → (a : Answer) → answer_number a ≡ refusal_number why
      → (o : Outcome) → o ≡ refused_with h a → Refused h (Event.message (received_by k octets)) o
  octets_refused why f a a-is o o_is =
      refusal h (Event.message (received_by k octets)) a o (refusal_number why)
      (lines_refused h.settings (good_state (from h)) (view_of (from h)) (lent_in h) (received_by k octets) q.lent q.event q.state octets refl why f)
      (refused_some why) a-is o_is

  pub octets_read : (r : Reading) → heard_from octets (Ok r) ≡ hear octets → Bounded (length octets) r → Read h k octets r
  octets_read r f b = record { admitted = q; heard = f; bounded = b }

module _ {h : Handed} {k : Link} {octets : List ℕ} {r : Reading} (read : Read h k octets r) where
  abbrev e : Received
  e = received_by k octets

  base_ours : ours h.settings (message_of octets).base.dodagid ≡ ours h.settings r.base.dodagid
  unfolding message_of
  base_ours = ap (λ (z : Address). ours h.settings z) (sym (ap (λ q. q.dodagid) (base_is octets r read.heard)))

  -- the lines from 8 on
  abbrev rest : List Line
  rest = message_lines h.settings (view_of (from h)) h.time e (message_of octets)

  heard_lines : answer_to h (Event.message e) ≡ cond (ours h.settings r.base.dodagid) 7 (answer_of rest)
  heard_lines =
      let q = read.admitted in
      lines_heard h.settings (good_state (from h)) (view_of (from h)) (lent_in h) e q.lent q.event q.state octets refl r read.heard
      ∙ ap (λ (b : Bool). cond b 7 (answer_of rest)) base_ours

  pub own_refused : ours h.settings r.base.dodagid ≡ true → (a : Answer) → a ≡ OwnDodagid → (o : Outcome) → o ≡ refused_with h a → Refused h (Event.message e) o
  own_refused z a a-is o o_is = refusal h (Event.message e) a o 7 (heard_lines ∙ rw z) (λ y. absurd (omega arith)) (ap answer_number a-is) o_is

module _ {h : Handed} {k : Link} {octets : List ℕ} {r : Reading} {p : Parsed} {v : List Address} (u : Understood h k octets r p v) where
  pub taken : Taken h.clock h.time h.rows h.forward h.reply p
  taken =
      let b = lent_bounds h.settings h.clock (lent_in h) u.read.admitted.lent in
      record {
        later = b.0;
        time = b.1;
        good =
            and_left (all_good good_instance (map instance_of h.rows)) (all_good good_route (map route_of h.routes))
            (good_is (good_state (from h)) (view_of (from h)) u.read.admitted.state);
        forward_room = b.2;
        reply_room = b.3;
        heard = rw u.parsed (heard_sound octets r u.read.heard u.read.bounded);
      }

  m_is : message_in p v ≡ message_of octets
  m_is = rw u.parsed (message_is octets r u.read.heard v u.vector)

  is_reply : (message_of octets).discovery.reply ≡ r.discovery.reply
  is_reply = reply_is octets r u.read.heard

  -- neither 1 nor 2 to 7
  message_on : answer_to h (Event.message (received_by k octets)) ≡ answer_of (rest u.read)
  message_on = heard_lines u.read ∙ rw u.foreign

  abbrev given : Call
  given = message_call h.time (length h.forward) (length h.reply) k octets

  pub request_step : r.discovery.reply ≡ false
      → step h.settings (from h) given ≡ enact h.time (from h) (request_decision h.settings (from h) h.time (received_by k []) (message_in p v))
  unfolding request_decision message_lines accept accept_message asked asked_with request_lines accept_request forwarded_request reply_message request_row
  request_step z = rw (called h given.event, message_on, m_is, is_reply ∙ z)

  pub reply_step : r.discovery.reply ≡ true
      → step h.settings (from h) given ≡ enact h.time (from h) (reply_decision h.settings (from h) h.time (received_by k []) (message_in p v))
  unfolding accept
  reply_step z =
      let y : (message_of octets).discovery.reply ≡ true = is_reply ∙ z in
      called h given.event
      ∙ ap₂ (λ (i : ℕ) (j : Accepted). enact h.time (from h) (decision_of i j))
      (message_on ∙ ap answer_of (reply_lines_lem h.settings (view_of (from h)) h.time (received_by k octets) (message_of octets) y))
      (reply_accept h.settings (view_of (from h)) h.time (received_by k octets) (message_of octets) y)
      ∙ reply_apart h.settings (from h) h.time k octets (message_of octets)
      ∙ ap (λ (i : Message). enact h.time (from h) (reply_decision h.settings (from h) h.time (received_by k []) i)) (sym m_is)

-- ---- a start

module _ {h : Handed} {s : Asking} {targets : List Target} (q : Admitted h (Event.start (start_of s targets))) (g : Gathering) (gathers : Gathers targets g)
    (ts : Targets) (ts-are : ts ≡ g.targets) where
  fits : Fit (start_of s targets) g
  fits = fit (start_of s targets) g gathers q.event

  pub taken_start : TakenStart h.clock h.time h.forward h.reply s ts
  taken_start =
      let b = lent_bounds h.settings h.clock (lent_in h) q.lent in
      record {
        later = b.0;
        forward_room = b.2;
        reply_room = b.3;
        time = b.1;
        sendable = rw ts-are (record { compr = fits.compr; targets = fits.few; prefixes = fits.short });
        padded = rw ts-are gathers.padded;
      }

  targets_are : list_of ts ≡ start_targets (start_of s targets)
  targets_are = rw ts-are fits.held

  start_on : answer_to h (Event.start (start_of s targets)) ≡ answer_of (start_lines h.settings (view_of (from h)) h.time (start_of s targets))
  unfolding lines
  start_on = first_none (is_bad h) (is_bad_event (Event.start (start_of s targets))) (is_wrong h) _ q.lent q.event q.state

  pub start_step : step h.settings (from h) (start_call h.time (length h.forward) (length h.reply) s targets)
      ≡ enact h.time (from h) (start_decision h.settings (from h) h.time (start_of s targets) (list_of ts))
  unfolding start_decision accept
  start_step = rw (called h (Event.start (start_of s targets)), start_on, targets_are)
