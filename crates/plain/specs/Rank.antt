-- 01, "Rank and freshness", and how long rows last.
use Rattle.std.specs.Prelude.{ℕ, ◌+◌, ◌-◌, ◌*◌, ◌/◌, ◌%◌, Bool, true, false, cond, not, ◌&&◌, ◌||◌, List, eqb, ltb, leb}
use Rattle.std.proofs.Math.Option.{Option, some, none}
use Rattle.plain.specs.Octets.{min_hop_rank_increase, default_lifetime, lifetime_unit}
use Rattle.plain.specs.declared.Freshness.{Freshness}
use Rattle.plain.specs.declared.Freshness.TheVariants.{Newer, Older, Equal, NotComparable}
use Rattle.plain.specs.declared.Standing.{Standing}
use Rattle.plain.specs.declared.Standing.TheVariants.{Afresh, Update, Stale, NothingNew}

-- ---- Rank

-- "Without it: 256" (Octets on the air)
abbrev pub min_hop : Option (List ℕ) → ℕ
min_hop none = 256
min_hop (some body) = min_hop_rank_increase body

-- "Integer part: rank divided by MinHopRankIncrease, rounded down."
unfoldable pub integer_part : ℕ → ℕ → ℕ
integer_part step rank = rank / step

-- "Own rank is advertised rank plus increase."
abbrev pub own_rank : ℕ → ℕ → ℕ
own_rank advertised increase = advertised + increase

-- "for a non-zero RankLimit, the advertised integer part is at or over it, or our own is over it, or at it while we are not the end
-- node"
unfoldable pub over_limit : ℕ → ℕ → ℕ → Bool → Bool
over_limit limit theirs ours isEnd =
    not (eqb limit 0) && (leb limit theirs || ltb limit ours || (eqb ours limit && not isEnd))

-- "12 if the increase is under MinHopRankIncrease, own rank is 65,535 or more, or" over the limit
unfoldable pub rank_refused : ℕ → ℕ → ℕ → ℕ → Bool → Bool
rank_refused step advertised increase limit isEnd =
    ltb increase step
    || leb 65535 (own_rank advertised increase)
    || over_limit limit (integer_part step advertised) (integer_part step (own_rank advertised increase)) isEnd

-- ---- Freshness

-- "Sequence numbers, RFC 6550 section 7.2, window 16."
abbrev pub window : ℕ
window = 16

-- "Both on the same side: differing by at most 16, the larger is newer; by more, not comparable."
abbrev pub same_side : ℕ → ℕ → Freshness
same_side a b = cond (leb (a - b + (b - a)) window) (cond (ltb b a) Newer (cond (ltb a b) Older Equal)) NotComparable

-- "A in 128..255, B in 0..127: B is newer if 256 + B - A is at most 16, else A."
abbrev pub low_is_newer : ℕ → ℕ → Bool
low_is_newer high low = leb (256 + low - high) window

-- How a stands to b: newer, older, equal or not comparable. The one order by which freshness is judged.
unfoldable pub freshness : ℕ → ℕ → Freshness
freshness a b =
    cond (leb 128 a)
    (cond (leb 128 b) (same_side a b) (cond (low_is_newer a b) Older Newer))
    (cond (leb 128 b) (cond (low_is_newer b a) Newer Older) (same_side a b))

-- "Own number steps before each start and each reply of ours; 127 and 255 both step to 1 (house rule; RFC 6550 goes to 0)."
unfoldable pub stepped : ℕ → ℕ
stepped own = cond (eqb own 127) 1 (cond (eqb own 255) 1 (own + 1))

-- How a message's number and own rank stand to the live row of its key. "With a live row: older or not comparable Orig SeqNo is 13; equal
-- and (we replied, or own rank not lower) is 14; equal and lower rank updates the row"; "Newer starts afresh in the same row."
unfoldable pub standing : Freshness → Bool → Bool → Standing
standing Newer replied lower = Afresh
standing Older replied lower = Stale
standing NotComparable replied lower = Stale
standing Equal replied lower = cond (replied || not lower) NothingNew Update

-- "A live route of the same three with a newer or not comparable number makes 13": how the route's number stands to the message's.
unfoldable pub outdated : Freshness → Bool
outdated Newer = true
outdated NotComparable = true
outdated Equal = false
outdated Older = false

-- ---- Deadlines, in ms

-- "L is 0 none, 1 16 s, 2 64 s, 3 256 s."
unfoldable pub row_deadline : ℕ → ℕ → Option ℕ
row_deadline time l =
    cond (eqb l 0) none (some (time + cond (eqb l 1) 16000 (cond (eqb l 2) 64000 256000)))

-- "A route lasts Default Lifetime times Lifetime Unit seconds; Default Lifetime 255 is endless." "Without [a Configuration]: .. endless."
unfoldable pub lifetime_deadline : ℕ → Option (List ℕ) → Option ℕ
lifetime_deadline time none = none
lifetime_deadline time (some body) =
    cond (eqb (default_lifetime body) 255) none (some (time + default_lifetime body * lifetime_unit body * 1000))

-- ---- Pairing

-- "RPLInstanceID plus Delta, rolling over past 255 to 0" (A request)
unfoldable pub plus_delta : ℕ → ℕ → ℕ
plus_delta instance delta = (instance + delta) % 256

-- "RPLInstanceID minus Delta, rolling under 0 to 255" (A reply)
unfoldable pub minus_delta : ℕ → ℕ → ℕ
minus_delta instance delta = (instance + 256 - delta) % 256
