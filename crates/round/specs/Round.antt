-- The round trip of the format: what we write, we read back to the same fields.
use Rattle.std.specs.Prelude.{ℕ, ◌≤◌, ◌<◌, ◌≡◌, Bool, true, false, cond, List, [], length, take}
use Rattle.std.proofs.Math.Option.{Option, some, none}
use Rattle.plain.specs.Lists.{once}
use Rattle.plain.specs.Address.{Address, first_bits, unusable}
use Rattle.plain.specs.Octets.{Message, Heard, hear, octets_of, elided, prefix_bits, bad_configuration, same_target, most_addresses, most_targets}
use Rattle.lemmas.specs.Each.{Each, Octets}
use Rattle.lemmas.specs.Written.{Written}
use Rattle.plain.specs.declared.Target.{Target}
use Rattle.plain.specs.declared.Base.{Base}
use Rattle.plain.specs.declared.Discovery.{Discovery}

-- ---- What can be written

-- a whole address: sixteen octets
pub record Whole (a : Address) : Type 0 where
  pub long : length a ≡ 16
  pub octets : Octets a

-- "RPLInstanceID, Version, Rank (16 bits), G, .., Prf (3), .., DODAGID (16 octets)", which is not "link-local, multicast or all zero"
pub record WritableBase (b : Base) : Type 0 where
  pub instance : b.instance < 256
  pub version : b.version < 256
  pub rank : b.rank < 65536
  pub prf : b.prf < 8
  pub dodagid : Whole b.dodagid
  pub usable : unusable b.dodagid ≡ false

-- "DODAG Configuration (0x04, length 14) ..; its MinHopRankIncrease .., Default Lifetime .. and Lifetime Unit .. must not be 0": all of
-- that is `bad_configuration`
abbrev pub WritableConfiguration : Option (List ℕ) → Type 0
WritableConfiguration none = Unit
WritableConfiguration (some body) = Octets body × (bad_configuration body ≡ false)

-- "Compr (4), L (2), RankLimit (7), Orig SeqNo (8)", or "Delta (6)" in a reply. "With H 1 .. Compr .. is ignored, sent 0."
pub record WritableDiscovery (d : Discovery) : Type 0 where
  pub compr : d.compr < 16
  pub unused : d.h ≡ true → d.compr ≡ 0
  pub l : d.l < 4
  pub limit : d.limit < 128
  pub number : d.number < cond d.reply 64 256

pub record WritableVector (d : Discovery) (dodagid : Address) (vector : List Address) : Type 0 where
  -- "With H 1 there is no vector"
  pub unused : d.h ≡ true → vector ≡ []
  pub whole : Each Whole vector
  -- "Vector addresses drop their first Compr octets, shared with the DODAGID."
  pub shared : Each (λ (a : Address). take d.compr a ≡ take d.compr dodagid) vector
  -- "over 16 vector addresses" is answer 6
  pub most : length vector ≤ most_addresses
  -- an option's length is one octet, and three octets of the body stand before the vector
  pub room : length (elided d.compr vector) ≤ 252

-- "Dest SeqNo (8), X, Prefix Length (7), target"
pub record WritableTarget (t : Target) : Type 0 where
  pub seq : t.seq < 256
  pub plen : t.plen < 128
  pub whole : Whole t.addr
  -- "spare bits ignored, stored and sent as zero": past the prefix there are zeros alone
  pub spare : first_bits (prefix_bits t.plen) t.addr ≡ t.addr

pub record WritableTargets (reply : Bool) (ts : List Target) : Type 0 where
  pub each : Each WritableTarget ts
  -- "A target listed twice .. counts once": none is
  pub twice : once same_target ts ≡ ts
  -- "one ART or more"; "over 8 targets" is answer 6
  pub least : 1 ≤ length ts
  pub most : length ts ≤ most_targets
  -- a reply has "one ART, which must be a whole address"
  pub one : reply ≡ true → length ts ≡ 1
  pub prefix : reply ≡ true → Each (λ (t : Target). t.plen ≡ 0) ts

-- A message that can be written.
pub record Writable (m : Message) : Type 0 where
  pub base : WritableBase m.base
  pub configuration : WritableConfiguration m.configuration
  pub discovery : WritableDiscovery m.discovery
  pub vector : WritableVector m.discovery m.base.dodagid m.vector
  pub targets : WritableTargets m.discovery.reply m.targets

-- ---- The claims

-- What we write, we read back to the same fields.
abbrev pub RoundTrip : Type 0
RoundTrip = (m : Message) → Writable m → hear (octets_of m) ≡ Heard.heard m

-- The same of a buffer that a writer leaves.
abbrev pub BufferRoundTrip : Type 0
BufferRoundTrip =
    (m : Message) → Writable m → (before after : List ℕ) (r : ℕ) → Written (octets_of m) before after r → hear (take r after) ≡ Heard.heard m

-- What we write are octets, each below 256.
abbrev pub WritesOctets : Type 0
WritesOctets = (m : Message) → Writable m → Octets (octets_of m)
