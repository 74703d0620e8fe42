-- Addresses: sixteen octets, most significant first. Each fact here is stated over the octets, whatever their number.
use Rattle.std.specs.Prelude.{ℕ, ◌-◌, ◌/◌, ◌*◌, ◌^◌, Bool, ◌&&◌, ◌||◌, List, [], ◌∷◌, ◌++◌, eqb, get_or, take, drop, replicate}
use Rattle.plain.specs.Lists.{all, same}

abbrev pub Address : Type 0
Address = List ℕ

-- no address: all zero
abbrev pub zero_address : Address
zero_address = replicate 16 0

-- link-local, fe80::/10
abbrev pub link_local : Address → Bool
link_local a = eqb (get_or a 0 0) 0xfe && eqb (get_or a 1 0 / 64) 2

-- multicast, ff00::/8
abbrev pub multicast : Address → Bool
multicast a = eqb (get_or a 0 0) 0xff

-- "all zero": every octet
abbrev pub all_zero : Address → Bool
all_zero a = all (eqb 0) a

-- "link-local, multicast or all zero" (answers 1 and 5)
unfoldable pub unusable : Address → Bool
unusable a = link_local a || multicast a || all_zero a

-- the first k bits of an octet, the others 0
unfoldable pub keep_bits : ℕ → ℕ → ℕ
keep_bits k x = x / 2 ^ (8 - k) * 2 ^ (8 - k)

-- the first k bits of an address, the others 0
unfoldable pub first_bits : ℕ → Address → Address
first_bits k [] = []
first_bits k (x ∷ xs) = keep_bits k x ∷ first_bits (k - 8) xs

-- "shares its first Prefix Length bits"
abbrev pub agree : ℕ → Address → Address → Bool
agree k a b = same (first_bits k a) (first_bits k b)

-- "Vector addresses drop their first Compr octets, shared with the DODAGID."
abbrev pub elide : ℕ → Address → List ℕ
elide compr a = drop compr a

-- an address with its dropped octets put back
abbrev pub restore : ℕ → Address → List ℕ → Address
restore compr dodagid octets = take compr dodagid ++ octets

-- "their first Compr octets, shared with the DODAGID": those of an address are the DODAGID's
abbrev pub shares_first : ℕ → Address → Address → Bool
shares_first compr dodagid a = same (take compr a) (take compr dodagid)
