-- What a message that was read is, and what its octets answer.
use Prim.Native.Nat.{ℕ, ◌+◌, ◌-◌, ◌/◌}
use mathlib.Core.Path.{◌≡◌, refl, sym, ap, ◌∙◌}
use mathlib.Core.Bool.{Bool, true, false, cond}
use mathlib.Core.List.{List, ◌∷◌}
use native.Mathlib.Omega.{arith}
use native.Mathlib.Nat.{div-mul-le_self}
use lib.Dec.{eqb}
use lib.ListN.{length, take, drop}
use borrow.Author.Tests.{ne_eqb}
use Rattle.plain.specs.Address.{Address, unusable}
use Rattle.plain.specs.Given.{Settings, Lent, Received, Event}
use Rattle.plain.specs.Answers.{Line, answer_of, View, short_prefix, bad_lent, long_message, wrong_state}
use Rattle.plain.specs.Octets as octets
use Rattle.plain.specs.Octets.{Message, restored, base_of, message_of, malformed, unfit, too_many, hear}
use Rattle.plain.specs.Request.{ours}
use Rattle.plain.specs.Plain.{lines, message_lines}
use Rattle.plain.specs.declared.Base.{Base}
use Rattle.lemmas.proofs.Each.{each_settles}
use Rattle.lemmas.proofs.Targets.{targets_short}
use Rattle.std.specs.Prelude.{Result, Ok, Err}
use Rattle.reader.specs.declared.Reading.{Reading}
use Rattle.reader.specs.declared.Refusal.{Refusal}
use Rattle.reader.specs.declared.Refusal.TheVariants.{Malformed, Unfit, Unusable, TooMany}
use Rattle.reader.specs.Reading.{refusal_number, message_read, heard_from, Bounded}
use Rattle.reader.proofs.Part.{part_length}
use Rattle.message.specs.Message.{message_in}
use Rattle.rule.specs.Heard.{Heard}
use Rattle.heard.specs.Parsed.{parsed_of}

-- ---- The vector's part of the octets

module _ (msg : List ℕ) (r : Reading) (b : Bounded (length msg) r) where
  pub vector_is : (v : List Address)
      → take (length (take (r.at + r.size - r.at) (drop r.at msg)) / (16 - r.discovery.compr)) v
      ≡ restored r.discovery.compr r.base.dodagid (take (r.at + r.size - r.at) (drop r.at msg))
      → take (r.size / (16 - r.discovery.compr)) v
      ≡ restored r.discovery.compr r.base.dodagid (take r.size (drop r.at msg))
  vector_is v e =
      let s : r.at + r.size - r.at ≡ r.size = omega arith in
      rw s at (rw (part_length msg r b) at e)

-- ---- What is heard

-- the message, where there is one
abbrev message_or : Message → octets.Heard → Message
message_or d (octets.Heard.refused k) = d
message_or d (octets.Heard.heard m) = m

-- the refusal's number, 0 where there is none
abbrev number_of : octets.Heard → ℕ
number_of (octets.Heard.refused k) = k
number_of (octets.Heard.heard m) = 0

-- refusals in their order, else a message
abbrev chosen : Bool → Bool → Bool → Bool → Message → octets.Heard
chosen a b c d m =
    cond a (octets.Heard.refused 3)
    (cond b (octets.Heard.refused 4) (cond c (octets.Heard.refused 5) (cond d (octets.Heard.refused 6) (octets.Heard.heard m))))

chosen_message : (a b c d : Bool) (m : Message) → message_or m (chosen a b c d m) ≡ m
chosen_message true b c d m = refl
chosen_message false true c d m = refl
chosen_message false false true d m = refl
chosen_message false false false true m = refl
chosen_message false false false false m = refl

-- lines of the same numbers, and those after them
chosen_number : (a b c d : Bool) (m : Message) (n k : ℕ) → number_of (chosen a b c d m) ≡ k
    → cond a 3 (cond b 4 (cond c 5 (cond d 6 n))) ≡ cond (eqb k 0) n k
chosen_number true b c d m n k e = rw (← e)
chosen_number false true c d m n k e = rw (← e)
chosen_number false false true d m n k e = rw (← e)
chosen_number false false false true m n k e = rw (← e)
chosen_number false false false false m n k e = rw (← e)

-- the number of a refusal, and 0 where a message is read
abbrev number_read : Result Reading Refusal → ℕ
number_read (Ok r) = 0
number_read (Err refusal) = refusal_number refusal

from_number : (msg : List ℕ) (read : Result Reading Refusal) → number_of (heard_from msg read) ≡ number_read read
unfolding heard_from
from_number msg (Ok r) = refl
from_number msg (Err refusal) = refl

pub refused_some : (refusal : Refusal) → refusal_number refusal ≡ 0 → ⊥
refused_some Malformed e = absurd (omega (arith, e))
refused_some Unfit e = absurd (omega (arith, e))
refused_some Unusable e = absurd (omega (arith, e))
refused_some TooMany e = absurd (omega (arith, e))

-- ---- The message

base_of_lem : (msg : List ℕ) → (message_of msg).base ≡ base_of msg
unfolding message_of
base_of_lem msg = refl

module _ (msg : List ℕ) (r : Reading) (e : heard_from msg (Ok r) ≡ hear msg) where
  pub message_read_lem : message_read msg r ≡ message_of msg
  unfolding heard_from hear
  message_read_lem =
      ap (message_or (message_of msg)) e
      ∙ chosen_message (malformed msg) (unfit msg) (unusable (base_of msg).dodagid) (too_many (message_of msg)) (message_of msg)

  pub message_is : (v : List Address)
      → take (r.size / (16 - r.discovery.compr)) v
      ≡ restored r.discovery.compr r.base.dodagid (take r.size (drop r.at msg))
      → message_in (parsed_of r) v ≡ message_of msg
  unfolding message_in parsed_of
  message_is v w = rw w message_read_lem

  pub reply_is : (message_of msg).discovery.reply ≡ r.discovery.reply
  reply_is = sym (ap (λ (m : Message). m.discovery.reply) message_read_lem)

  pub base_is : r.base ≡ base_of msg
  base_is = ap (λ (m : Message). m.base) message_read_lem ∙ base_of_lem msg

  pub heard_sound : Bounded (length msg) r → Heard (parsed_of r)
  unfolding parsed_of
  heard_sound b = record {
    addresses = b.addresses;
    octets = λ h. omega (arith, div-mul-le_self r.size (16 - r.discovery.compr), b.short);
    compr = b.compr;
    targets = b.few;
    prefixes =
        rw (ap (λ (m : Message). m.targets) message_read_lem) (each_settles false short_prefix (message_of msg).targets (targets_short msg));
    padded = b.padded;
  }

-- ---- The lines

-- those that every call is asked first: 1 of what is lent, 1 of what is asked, 2
module _ (lent own wrong : Bool) (rest : List Line) where
  abbrev pub first_lines : List Line
  first_lines =
      record { number = 1; holds = lent } ∷ record { number = 1; holds = own } ∷ record { number = 2; holds = wrong } ∷ rest

  pub first_lent : lent ≡ true → answer_of first_lines ≡ 1
  unfolding answer_of
  first_lent a = rw a

  pub first_own : lent ≡ false → own ≡ true → answer_of first_lines ≡ 1
  unfolding answer_of
  first_own a l = rw (a, l)

  pub first_wrong : lent ≡ false → own ≡ false → wrong ≡ true → answer_of first_lines ≡ 2
  unfolding answer_of
  first_wrong a l w = rw (a, l, w)

  pub first_none : lent ≡ false → own ≡ false → wrong ≡ false → answer_of first_lines ≡ answer_of rest
  unfolding answer_of
  first_none a l w = rw (a, l, w)

module _ (x : Settings) (good : Bool) (v : View) (c : Lent) (e : Received) where
  module _ (a : bad_lent x v.clock c ≡ false) where
    module _ (l : long_message e.octets ≡ false) where
      module _ (w : wrong_state good v ≡ false) (msg : List ℕ) (q : e.octets ≡ msg) where
        -- 3, 4, 5 and 6, or the lines after them
        lines_are : (read : Result Reading Refusal) → heard_from msg read ≡ hear msg → answer_of (lines x good v c (Event.message e))
            ≡ cond (eqb (number_read read) 0)
            (cond (ours x (base_of msg).dodagid) 7 (answer_of (message_lines x v c.time e (message_of msg))))
            (number_read read)
        unfolding lines answer_of hear
        lines_are read f =
            rw (a, l, w, q)
            (chosen_number (malformed msg) (unfit msg) (unusable (base_of msg).dodagid) (too_many (message_of msg)) (message_of msg) _ _
            (sym (ap number_of f) ∙ from_number msg read))

        pub lines_refused : (refusal : Refusal) → heard_from msg (Err refusal) ≡ hear msg
            → answer_of (lines x good v c (Event.message e)) ≡ refusal_number refusal
        lines_refused refusal f = rw (ne_eqb (refusal_number refusal) 0 (refused_some refusal)) at (lines_are (Err refusal) f)

        pub lines_heard : (r : Reading) → heard_from msg (Ok r) ≡ hear msg
            → answer_of (lines x good v c (Event.message e))
            ≡ cond (ours x (message_of msg).base.dodagid) 7 (answer_of (message_lines x v c.time e (message_of msg)))
        lines_heard r f =
            lines_are (Ok r) f
            ∙ ap (λ (b : Base). cond (ours x b.dodagid) 7 (answer_of (message_lines x v c.time e (message_of msg)))) (sym (base_of_lem msg))
