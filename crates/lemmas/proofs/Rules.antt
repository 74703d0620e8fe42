-- Facts of the plain node's definitions that crates use which do not see each other.
use Prim.Native.Nat.{ℕ, ◌+◌, ◌-◌, ◌*◌, ◌/◌, ◌^◌, ◌<◌, ◌≤◌}
use mathlib.Core.Path.{◌≡◌, refl, ap}
use mathlib.Core.Bool.{Bool, true, false, cond, ◌||◌}
use mathlib.Core.List.{List, [], ◌∷◌, flatten}
use mathlib.Core.Option.{Option, some, none}
use native.Mathlib.Omega.{arith}
use native.Mathlib.Nat.{suc-mul}
use lib.Dec.{eqb, ltb}
use lib.ListN.{length, drop, length-append, length-drop}
use borrow.Author.Tests.{ltb-true, ltb-false, lt-ltb}
use Rattle.plain.specs.Given.{Settings, Lent}
use Rattle.plain.specs.Answers.{Line, answer_of, of_kind, bad_lent}
use Rattle.plain.specs.Address.{Address, keep_bits, unusable}
use Rattle.plain.specs.Octets.{prefix_octets, elided}
use Rattle.plain.specs.Table.{Numbered, lasts}
use Rattle.lemmas.specs.Each.{WholeVector}
use Rattle.lemmas.proofs.Choice.{cond_case, or_left, or_right}

-- a prefix has no more octets than an address
pub most_octets_lem : (plen : ℕ) → plen < 128 → prefix_octets plen ≤ 16
most_octets_lem plen h = cond_case (λ (b : ℕ). (b + 7) / 8 ≤ 16) (eqb plen 0) 128 plen (λ _. omega arith) (λ _. omega arith)

-- each address of a vector takes the octets that Compr leaves of it
pub elided_length : (compr : ℕ) (v : List Address) → WholeVector v → length (elided compr v) ≡ length v * (16 - compr)
unfolding flatten
elided_length compr [] w = omega arith
elided_length compr (a ∷ v) w =
    omega (
      arith,
      length-append (drop compr a) (elided compr v),
      length-drop compr a,
      w.0,
      elided_length compr v w.1,
      suc-mul (length v) (16 - compr),
    )

-- no bit of an octet
pub keep_none : (x : ℕ) → x < 256 → keep_bits 0 x ≡ 0
unfolding keep_bits
keep_none x h = omega arith

-- what is live at a time was live before
pub lasts_before : (c t : ℕ) (d : Option ℕ) → c ≤ t → lasts t d ≡ true → lasts c d ≡ true
lasts_before c t none h e = refl
lasts_before c t (some d) h e = lt-ltb c d (omega (arith, ltb-true t d e))

-- where each row is of the kind, the rows of the kind are all
pub every_kind : {A : Type 0} (ns : List (Numbered A)) → ns ≡ of_kind some ns
unfolding of_kind
every_kind [] = refl
every_kind (n ∷ ns) = ap (λ zs. n ∷ zs) (every_kind ns)

-- an answer 0: a line of another number does not hold
pub unheld : (l : Line) (ls : List Line) → answer_of (l ∷ ls) ≡ 0 → 0 < l.number → (l.holds ≡ false) × (answer_of ls ≡ 0)
unfolding answer_of
unheld l ls e h = go l.holds refl e
  where
    go : (b : Bool) → l.holds ≡ b → cond b l.number (answer_of ls) ≡ 0 → (l.holds ≡ false) × (answer_of ls ≡ 0)
    go true f e = absurd (omega arith)
    go false f e = (f, e)

-- what line 1 leaves of what every call is lent
pub lent_bounds : (x : Settings) (clock : ℕ) (c : Lent) → bad_lent x clock c ≡ false
    → (clock ≤ c.time) × (c.time ≤ 2 ^ 40) × (1236 ≤ c.forward_room) × (1236 ≤ c.reply_room)
unfolding bad_lent
lent_bounds x clock c e =
    let d = or_left _ (unusable x.sending) e in
    let f = or_left _ (unusable x.receiving) d in
    let g = or_left _ (ltb c.reply_room 1236) f in
    let h = or_left _ (ltb c.forward_room 1236) g in (
      ltb-false c.time clock (or_left (ltb c.time clock) _ h),
      ltb-false (2 ^ 40) c.time (or_right (ltb c.time clock) _ h),
      ltb-false c.forward_room 1236 (or_right (ltb c.time clock || ltb (2 ^ 40) c.time) _ g),
      ltb-false c.reply_room 1236 (or_right (ltb c.time clock || ltb (2 ^ 40) c.time || ltb c.forward_room 1236) _ f),
    )
