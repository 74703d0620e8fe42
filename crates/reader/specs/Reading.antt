-- What a Reading stands for.
use Rattle.std.specs.Prelude.{ℕ, ◌+◌, ◌-◌, ◌/◌, ◌≤◌, ◌≡◌, true, List, take, drop, Result, Ok, Err}
use Rattle.lemmas.specs.Optional.{of_option}
use Rattle.plain.specs.Blank.{Padded}
use Rattle.plain.specs.Octets as octets
use Rattle.reader.specs.declared.Refusal.{Refusal}
use Rattle.reader.specs.declared.Refusal.TheVariants.{Malformed, Unfit, Unusable, TooMany}
use Rattle.reader.specs.declared.Reading.{Reading}

-- "Answer numbers": 3 "message cut or malformed", 4 "MOP is not 4, or option counts wrong", 5 "DODAGID link-local, multicast or all zero",
-- 6 "over 16 vector addresses or over 8 targets"
abbrev pub refusal_number : Refusal → ℕ
refusal_number Malformed = 3
refusal_number Unfit = 4
refusal_number Unusable = 5
refusal_number TooMany = 6

-- the message that is read, with its vector's addresses restored (01, "Octets on the air")
abbrev pub message_read : List ℕ → Reading → octets.Message
message_read msg r = record {
  base = r.base;
  configuration = of_option r.configuration;
  discovery = r.discovery;
  vector = octets.restored r.discovery.compr r.base.dodagid (take r.size (drop r.at msg));
  targets = take r.count r.targets;
}

-- a refusal by its number, or a message
unfoldable pub heard_from : List ℕ → Result Reading Refusal → octets.Heard
heard_from msg (Ok r) = octets.Heard.heard (message_read msg r)
heard_from msg (Err refusal) = octets.Heard.refused (refusal_number refusal)

-- What holds of a message that is heard: at most 16 addresses and 8 targets, a vector of an option's octets, and none with H 1.
-- Past its targets the list is blank.
pub record Bounded (n : ℕ) (r : Reading) : Type 0 where
  pub few : r.count ≤ 8
  pub padded : Padded r.count r.targets
  pub within : r.at + r.size ≤ n
  pub short : r.size ≤ 252
  pub compr : r.discovery.compr ≤ 15
  pub addresses : r.size / (16 - r.discovery.compr) ≤ 16
  pub alone : r.discovery.h ≡ true → r.size ≡ 0
