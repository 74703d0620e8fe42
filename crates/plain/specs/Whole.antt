-- 01, "Bench examples", the unmarked whole one, and the calibration error that this work began with, as runs of the plain node.
use Rattle.std.specs.Prelude.{ℕ, ◌≡◌, Bool, true, false, List, [], ◌∷◌, ◌++◌, length, replicate}
use Rattle.plain.specs.Address.{Address}
use Rattle.plain.specs.Given.{Settings, Call, Event, Destination}
use Rattle.plain.specs.Plain.{fresh, step}

-- fd00::n and fe80::n
abbrev pub fd00 : ℕ → Address
fd00 n = 0xfd ∷ replicate 14 0 ++ (n ∷ [])

abbrev pub fe80 : ℕ → Address
fe80 n = 0xfe ∷ 0x80 ∷ replicate 13 0 ++ (n ∷ [])

-- "both own addresses fd00::2"
abbrev pub card : Settings
card = record { receiving = fd00 2; sending = fd00 2 }

-- what follows the rank: "20 00 00 00, fd00::1", the Configuration if there is one, "0B 03 C0 87 F0, 0D 12 00 00, fd00::9", with the
-- first octet of the RREQ's body given
abbrev pub rest : List ℕ → ℕ → List ℕ
rest configuration first =
    (0x20 ∷ 0x00 ∷ 0x00 ∷ 0x00 ∷ fd00 1) ++ configuration ++ (0x0B ∷ 0x03 ∷ first ∷ 0x87 ∷ 0xF0 ∷ 0x0D ∷ 0x12 ∷ 0x00 ∷ 0x00 ∷ fd00 9)

-- "81 00 03 00 20 00 00 00, fd00::1, 0B 03 C0 87 F0, 0D 12 00 00, fd00::9"
abbrev pub whole_request : List ℕ → List ℕ
whole_request configuration = (0x81 ∷ 0x00 ∷ 0x03 ∷ 0x00 ∷ []) ++ rest configuration 0xC0

-- "time 0, neighbour fe80::5, to the group ..; increase 256, links good"
abbrev pub heard_call : List ℕ → Bool → Call
heard_call octets downward = record {
  lent = record { time = 0; forward_room = 1236; reply_room = 1236 };
  event = Event.message (record { octets = octets; neighbour = fe80 5; upward = true; downward = downward; increase = 256; to_group = true });
}

-- a Configuration with MinHopRankIncrease 1, as the sheet gave it, Default Lifetime and Lifetime Unit 1
abbrev pub wrong_sheet : List ℕ
wrong_sheet = 0x04 ∷ 14 ∷ 0 ∷ 0 ∷ 0 ∷ 0 ∷ 0 ∷ 0 ∷ 0 ∷ 1 ∷ 0 ∷ 0 ∷ 0 ∷ 1 ∷ 0 ∷ 1 ∷ []

pub record Whole : Type 0 where
  -- "Forwarded, 49 octets: 81 00 04 00 20 00 00 00 and the rest unchanged." by a "fresh node, .. 4 rows a table"
  pub answer : (step card (fresh 4 4) (heard_call (whole_request []) true)).answer ≡ 0
  pub forward : (step card (fresh 4 4) (heard_call (whole_request []) true)).sent.forward ≡ (0x81 ∷ 0x00 ∷ 0x04 ∷ 0x00 ∷ []) ++ rest [] 0xC0
  pub size : length (step card (fresh 4 4) (heard_call (whole_request []) true)).sent.forward ≡ 49
  pub to : (step card (fresh 4 4) (heard_call (whole_request []) true)).sent.forward_to ≡ Destination.group
  pub reply : (step card (fresh 4 4) (heard_call (whole_request []) true)).sent.reply ≡ []
  -- "Downward bad: C0 becomes 40."
  pub downward_bad : (step card (fresh 4 4) (heard_call (whole_request []) false)).sent.forward ≡ (0x81 ∷ 0x00 ∷ 0x04 ∷ 0x00 ∷ []) ++ rest [] 0x40
  -- The calibration error: with MinHopRankIncrease 1, rank 768 and RankLimit 7 the answer is 12, and nothing changes.
  pub deaf : (step card (fresh 4 4) (heard_call (whole_request wrong_sheet) true)).answer ≡ 12
  pub unchanged : (step card (fresh 4 4) (heard_call (whole_request wrong_sheet) true)).state ≡ fresh 4 4
