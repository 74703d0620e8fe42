-- 01, "Octets on the air": the format of a message, stated once for reader and writer.
use Rattle.std.specs.Prelude.{ℕ, zero, suc, ◌+◌, ◌-◌, ◌*◌, ◌/◌, ◌%◌, ◌^◌, Bool, true, false, cond, not, ◌&&◌, ◌||◌, eqb, ltb, leb, length, get_or, take, drop, replicate}
use mathlib.Core.List.{List, [], ◌∷◌, ◌++◌, map, flatten}
use Rattle.std.proofs.Math.Option.{Option, some, none}
use Rattle.plain.specs.Lists.{any, those, once, same}
use Rattle.plain.specs.Address.{Address, first_bits, elide, restore, unusable}
use Rattle.plain.specs.declared.Target.{Target}
use Rattle.plain.specs.declared.Base.{Base}
use Rattle.plain.specs.declared.Discovery.{Discovery}

-- ---- Words and their fields, "most significant bit first"

-- how many bits some fields have together
unfoldable pub sum : List ℕ → ℕ
sum [] = 0
sum (w ∷ ws) = w + sum ws

-- the fields of a word, each of so many bits
unfoldable pub fields : List ℕ → ℕ → List ℕ
fields [] n = []
fields (w ∷ ws) n = n / 2 ^ sum ws % 2 ^ w ∷ fields ws n

-- the word of such fields
unfoldable pub word : List ℕ → List ℕ → ℕ
word [] vs = 0
word (w ∷ ws) [] = 0
word (w ∷ ws) (v ∷ vs) = v % 2 ^ w * 2 ^ sum ws + word ws vs

-- a flag as a field of one bit
abbrev pub bit : Bool → ℕ
bit true = 1
bit false = 0

-- octet number i, from 0; past the end it is 0
abbrev pub octet_at : List ℕ → ℕ → ℕ
octet_at xs i = get_or xs i 0

-- the word of 16 bits that starts at octet number i
abbrev pub word_at : List ℕ → ℕ → ℕ
word_at xs i = octet_at xs i * 256 + octet_at xs (i + 1)

-- the two octets of a word of 16 bits
abbrev pub word_octets : ℕ → List ℕ
word_octets n = n / 256 % 256 ∷ n % 256 ∷ []

-- ---- What a message is

-- A message is a base, perhaps a Configuration (its 14 octets), an RREQ or RREP with its vector, and targets. With H 1 there is no
-- vector.
pub record Message : Type 0 where
  pub base : Base
  pub configuration : Option (List ℕ)
  pub discovery : Discovery
  pub vector : List Address
  pub targets : List Target

-- ---- Layouts

-- "RFC 6550, 6.3.1: RPLInstanceID, Version, Rank (16 bits), G, 0 (ignored, sent 0), MOP (3 bits), Prf (3), DTSN, Flags, Reserved,
-- DODAGID (16 octets): 24 octets": octet 4
abbrev pub base_bits : List ℕ
base_bits = 1 ∷ 1 ∷ 3 ∷ 3 ∷ []

-- "RREQ, type 0x0B: S, H, X, Compr (4), L (2), RankLimit (7)"; "RREP, type 0x0C: G, H, X, Compr (4), L (2), RankLimit (7)"
abbrev pub route_bits : List ℕ
route_bits = 1 ∷ 1 ∷ 1 ∷ 4 ∷ 2 ∷ 7 ∷ []

-- the third octet: "Orig SeqNo (8)", or "Delta (6), X X"
abbrev pub number_bits : Bool → List ℕ
number_bits isReply = cond isReply (6 ∷ 2 ∷ []) (8 ∷ [])

-- "ART, type 0x0D: Dest SeqNo (8), X, Prefix Length (7), target"
abbrev pub art_bits : List ℕ
art_bits = 1 ∷ 7 ∷ []

-- "DODAG Configuration (0x04, length 14)"
abbrev pub configuration_type : ℕ
configuration_type = 0x04

-- "RREQ, type 0x0B"
abbrev pub rreq_type : ℕ
rreq_type = 0x0B

-- "RREP, type 0x0C"
abbrev pub rrep_type : ℕ
rrep_type = 0x0C

-- "ART, type 0x0D"
abbrev pub art_type : ℕ
art_type = 0x0D

-- "Length 0 means a whole 16-octet address": how many bits a Prefix Length stands for
abbrev pub prefix_bits : ℕ → ℕ
prefix_bits plen = cond (eqb plen 0) 128 plen

-- "else Ceil(length/8) octets"
abbrev pub prefix_octets : ℕ → ℕ
prefix_octets plen = (prefix_bits plen + 7) / 8

-- ---- Options

-- "type, length, body": the length is that of the body
pub record Opt : Type 0 where
  pub kind : ℕ
  pub body : List ℕ

-- an option in front of those that follow, if these are whole
abbrev pub followed_by : Opt → Option (List Opt) → Option (List Opt)
followed_by o none = none
followed_by o (some os) = some (o ∷ os)

-- "each other option is type, length, body": what follows a type that is not Pad1, where `rest` reads on. An option past the end is none.
abbrev pub sized : (List ℕ → Option (List Opt)) → ℕ → List ℕ → Option (List Opt)
sized rest kind [] = none
sized rest kind (size ∷ xs) =
    cond (leb size (length xs)) (followed_by (record { kind = kind; body = take size xs }) (rest (drop size xs))) none

-- "then options. Pad1 (0x00) is one octet"
abbrev pub next_option : (List ℕ → Option (List Opt)) → List ℕ → Option (List Opt)
next_option rest [] = some []
next_option rest (kind ∷ xs) = cond (eqb kind 0) (rest xs) (sized rest kind xs)

-- the options of some octets, read in at most n steps; `none` if one is past the end
unfoldable pub options_in : ℕ → List ℕ → Option (List Opt)
options_in zero xs = some []
options_in (suc n) xs = next_option (options_in n) xs

-- the options of a message. Each step takes an octet at least, so as many steps as octets are enough.
abbrev pub options_of : List ℕ → Option (List Opt)
options_of msg = options_in (length msg) (drop 24 msg)

-- the options of a type, in their order; none in a message that is cut
abbrev pub of_type : ℕ → Option (List Opt) → List Opt
of_type kind none = []
of_type kind (some os) = those (λ (o : Opt). eqb o.kind kind) os

-- the first body of a type, empty where there is none
abbrev pub first_body : List Opt → List ℕ
first_body [] = []
first_body (o ∷ os) = o.body

-- ---- The DODAG Configuration

-- "its MinHopRankIncrease (body octets 6 and 7, from 0)"
abbrev pub min_hop_rank_increase : List ℕ → ℕ
min_hop_rank_increase body = word_at body 6

-- "Default Lifetime (11)"
abbrev pub default_lifetime : List ℕ → ℕ
default_lifetime body = octet_at body 11

-- "Lifetime Unit (12 and 13)"
abbrev pub lifetime_unit : List ℕ → ℕ
lifetime_unit body = word_at body 12

-- a body that is not of "length 14"; and "its MinHopRankIncrease .., Default Lifetime (11) and Lifetime Unit (12 and 13) must not be 0,
-- else 3"
unfoldable pub bad_configuration : List ℕ → Bool
bad_configuration body =
    not (eqb (length body) 14) || eqb (min_hop_rank_increase body) 0 || eqb (default_lifetime body) 0 || eqb (lifetime_unit body) 0

-- ---- RREQ and RREP

-- field k of an RREQ's or RREP's first two octets
abbrev pub route_field : List ℕ → ℕ → ℕ
route_field body k = get_or (fields route_bits (word_at body 0)) k 0

-- "S" of an RREQ, "G" of an RREP
abbrev pub flag_of : List ℕ → Bool
flag_of body = eqb (route_field body 0) 1

-- "H"
abbrev pub h_of : List ℕ → Bool
h_of body = eqb (route_field body 1) 1

-- "Compr (4)". "With H 1 .. Compr, like X bits, is ignored, sent 0."
abbrev pub compr_of : List ℕ → ℕ
compr_of body = cond (h_of body) 0 (route_field body 3)

-- "L (2)"
abbrev pub l_of : List ℕ → ℕ
l_of body = route_field body 4

-- "RankLimit (7)"
abbrev pub limit_of : List ℕ → ℕ
limit_of body = route_field body 5

-- "Orig SeqNo (8)" of an RREQ, "Delta (6)" of an RREP
abbrev pub number_of : Bool → List ℕ → ℕ
number_of isReply body = get_or (fields (number_bits isReply) (octet_at body 2)) 0 0

-- the octets of the vector, which follow the first three
abbrev pub vector_octets : List ℕ → List ℕ
vector_octets body = drop 3 body

-- how many of them make an address: "Vector addresses drop their first Compr octets"
abbrev pub address_octets : ℕ → ℕ
address_octets compr = 16 - compr

-- so many parts of k octets each
unfoldable pub parts : ℕ → ℕ → List ℕ → List (List ℕ)
parts zero k xs = []
parts (suc n) k xs = take k xs ∷ parts n k (drop k xs)

-- "Vector addresses drop their first Compr octets, shared with the DODAGID": the whole addresses
unfoldable pub restored : ℕ → Address → List ℕ → List Address
restored compr dodagid xs = map (restore compr dodagid) (parts (length xs / address_octets compr) (address_octets compr) xs)

-- "With H 1 there is no vector (else 3)". "A vector that isn't a whole number of addresses .. and an RREQ or RREP body under 3 octets
-- are 3."
unfoldable pub bad_route : List ℕ → Bool
bad_route body =
    ltb (length body) 3
    || cond (h_of body) (ltb 3 (length body)) (not (eqb (length (vector_octets body) % address_octets (compr_of body)) 0))

-- ---- ART

-- Prefix Length
abbrev pub plen_of : List ℕ → ℕ
plen_of body = get_or (fields art_bits (octet_at body 1)) 1 0

-- the target: its octets filled up with zeros to a whole address, "spare bits ignored, stored and sent as zero"
unfoldable pub target_of : List ℕ → Target
target_of body = record {
  seq = octet_at body 0;
  plen = plen_of body;
  addr = first_bits (prefix_bits (plen_of body)) (take 16 (drop 2 body ++ replicate 16 0));
}

-- "an ART of another size" is 3
unfoldable pub bad_art : List ℕ → Bool
bad_art body = ltb (length body) 2 || not (eqb (length body) (2 + prefix_octets (plen_of body)))

-- two targets are the same: "same prefix length and meaningful bits"
unfoldable pub same_target : Target → Target → Bool
same_target a b = eqb a.plen b.plen && same (first_bits (prefix_bits a.plen) a.addr) (first_bits (prefix_bits b.plen) b.addr)

-- "A target listed twice in a request or start .. counts once, at its first place"
abbrev pub targets_of : List Opt → List Target
targets_of arts = once same_target (map (λ (o : Opt). target_of o.body) arts)

-- ---- Answers 3, 4, 5 and 6

-- an option whose body is wrong for its type. "Unknown types are skipped."
unfoldable pub bad_option : Opt → Bool
bad_option o =
    cond (eqb o.kind configuration_type) (bad_configuration o.body)
    (cond (eqb o.kind rreq_type || eqb o.kind rrep_type) (bad_route o.body)
    (cond (eqb o.kind art_type) (bad_art o.body) false))

-- "A request has one RREQ, no RREP, one ART or more"
unfoldable pub request_counts : Option (List Opt) → Bool
request_counts os =
    eqb (length (of_type rreq_type os)) 1 && eqb (length (of_type rrep_type os)) 0 && ltb 0 (length (of_type art_type os))

-- "a reply one RREP, no RREQ, one ART"
unfoldable pub reply_counts : Option (List Opt) → Bool
reply_counts os =
    eqb (length (of_type rrep_type os)) 1 && eqb (length (of_type rreq_type os)) 0 && eqb (length (of_type art_type os)) 1

-- one of the options is past the end, or has a wrong body
abbrev pub any_bad : Option (List Opt) → Bool
any_bad none = true
any_bad (some os) = any bad_option os

-- 3: "message cut or malformed". "An option past the end or a message under 24 octets is 3. One DODAG Configuration (0x04, length 14) at
-- most, else 3". A reply's ART "must be a whole address (else 3)".
unfoldable pub malformed : List ℕ → Bool
malformed msg =
    ltb (length msg) 24
    || any_bad (options_of msg)
    || ltb 1 (length (of_type configuration_type (options_of msg)))
    || (reply_counts (options_of msg) && not (eqb (plen_of (first_body (of_type art_type (options_of msg)))) 0))

-- "MOP (3 bits)"
abbrev pub mop_of : List ℕ → ℕ
mop_of msg = get_or (fields base_bits (octet_at msg 4)) 2 0

-- 4: "MOP is not 4, or option counts wrong". "Other counts are 4."
unfoldable pub unfit : List ℕ → Bool
unfit msg = not (eqb (mop_of msg) 4) || not (request_counts (options_of msg) || reply_counts (options_of msg))

-- the base: "RPLInstanceID, Version, Rank (16 bits), G, .. Prf (3), .. DODAGID (16 octets)"
unfoldable pub base_of : List ℕ → Base
base_of msg = record {
  instance = octet_at msg 0;
  version = octet_at msg 1;
  rank = word_at msg 2;
  g = eqb (get_or (fields base_bits (octet_at msg 4)) 0 0) 1;
  prf = get_or (fields base_bits (octet_at msg 4)) 3 0;
  dodagid = take 16 (drop 8 msg);
}

-- the body of the RREQ or RREP
abbrev pub route_body : Option (List Opt) → List ℕ
route_body os = first_body (of_type (cond (reply_counts os) rrep_type rreq_type) os)

-- the body of the Configuration, if there is one
abbrev pub configuration_of : List Opt → Option (List ℕ)
configuration_of [] = none
configuration_of (o ∷ os) = some o.body

-- the RREQ or RREP, where its body is given
unfoldable pub discovery_of : Bool → List ℕ → Discovery
discovery_of isReply body = record {
  reply = isReply;
  flag = flag_of body;
  h = h_of body;
  compr = compr_of body;
  l = l_of body;
  limit = limit_of body;
  number = number_of isReply body;
}

-- The message that some octets are, where they are not malformed or unfit.
unfoldable pub message_of : List ℕ → Message
message_of msg = record {
  base = base_of msg;
  configuration = configuration_of (of_type configuration_type (options_of msg));
  discovery = discovery_of (reply_counts (options_of msg)) (route_body (options_of msg));
  vector = restored (compr_of (route_body (options_of msg))) (base_of msg).dodagid (vector_octets (route_body (options_of msg)));
  targets = targets_of (of_type art_type (options_of msg));
}

-- how many addresses a vector may have: "over 16 vector addresses" is 6, "past 16 addresses" is 16
abbrev pub most_addresses : ℕ
most_addresses = 16

-- how many targets a message, a start or a row may have: "over 8 targets" is 6, 1 or 2
abbrev pub most_targets : ℕ
most_targets = 8

-- 6: "over 16 vector addresses or over 8 targets". "the 8 are counted after that", that is after repeats are left out.
unfoldable pub too_many : Message → Bool
too_many m = ltb most_addresses (length m.vector) || ltb most_targets (length m.targets)

-- What the octets alone tell: a refusal by its number, or a message.
pub data Heard : Type 0 where
  refused : ℕ → Heard
  heard : Message → Heard

-- answers 3 to 6: "Each is given exactly when its line holds and no lower number's does."
unfoldable pub hear : List ℕ → Heard
hear msg =
    cond (malformed msg) (Heard.refused 3)
    (cond (unfit msg) (Heard.refused 4)
    (cond (unusable (base_of msg).dodagid) (Heard.refused 5)
    (cond (too_many (message_of msg)) (Heard.refused 6) (Heard.heard (message_of msg)))))

-- ---- The octets of a message

-- "each other option is type, length, body"
abbrev pub option_octets : ℕ → List ℕ → List ℕ
option_octets kind body = kind ∷ length body ∷ body

-- "RPLInstanceID, Version, Rank (16 bits), G, 0 (ignored, sent 0), MOP (3 bits), Prf (3), DTSN, Flags, Reserved, DODAGID (16 octets): 24
-- octets"; "DTSN, Flags and Reserved 0" (A request). MOP is 4.
unfoldable pub base_octets : Base → List ℕ
base_octets b =
    (b.instance ∷ b.version ∷ word_octets b.rank)
    ++ (word base_bits (bit b.g ∷ 0 ∷ 4 ∷ b.prf ∷ []) ∷ 0 ∷ 0 ∷ 0 ∷ [])
    ++ b.dodagid

-- "Configuration if present" (A request)
unfoldable pub configuration_octets : Option (List ℕ) → List ℕ
configuration_octets none = []
configuration_octets (some body) = option_octets configuration_type body

-- a vector's octets: its addresses one after the other, without "their first Compr octets"
abbrev pub elided : ℕ → List Address → List ℕ
elided compr vector = flatten (map (elide compr) vector)

-- the body of an RREQ or RREP. "With H 1 there is no vector .. and Compr, like X bits, is .. sent 0."
unfoldable pub route_body_octets : Discovery → List Address → List ℕ
route_body_octets d vector =
    word_octets (word route_bits (bit d.flag ∷ bit d.h ∷ 0 ∷ cond d.h 0 d.compr ∷ d.l ∷ d.limit ∷ []))
    ++ (word (number_bits d.reply) (d.number ∷ 0 ∷ []) ∷ [])
    ++ cond d.h [] (elided d.compr vector)

unfoldable pub route_octets : Discovery → List Address → List ℕ
route_octets d vector = option_octets (cond d.reply rrep_type rreq_type) (route_body_octets d vector)

-- "ART, type 0x0D: Dest SeqNo (8), X, Prefix Length (7), target. Length 0 means a whole 16-octet address; else Ceil(length/8) octets"
unfoldable pub art_octets : Target → List ℕ
art_octets t =
    option_octets art_type (t.seq ∷ word art_bits (0 ∷ t.plen ∷ []) ∷ take (prefix_octets t.plen) t.addr)

-- "the base .., Configuration if present, RREQ .., ARTs in arrival order" (A request); "Base and Configuration go on as for a request,
-- then RREP and ART" (A reply)
unfoldable pub octets_of : Message → List ℕ
octets_of m =
    base_octets m.base ++ configuration_octets m.configuration ++ route_octets m.discovery m.vector ++ flatten (map art_octets m.targets)
