-- A message that is heard, and answers 5 and 6.
use Prim.Native.Nat.{ℕ, zero, suc, ◌-◌, ◌/◌, ◌≤◌}
use mathlib.Core.Path.{◌≡◌, refl, sym, ap, ◌∙◌}
use mathlib.Core.Bool.{true, false, ◌||◌}
use mathlib.Core.List.{List}
use mathlib.Core.Option.{Option}
use native.Mathlib.Omega.{arith}
use lib.Dec.{ltb}
use lib.ListN.{length, take, drop, length-take, length-drop, length-map}
use borrow.Author.Tests.{ltb-false}
use Rattle.lemmas.proofs.Choice.{or_left, or_right}
use Rattle.plain.specs.Address.{Address, unusable}
use Rattle.plain.specs.Octets.{options_of, of_type, art_type, targets_of, base_of, parts, restored, address_octets, route_body, vector_octets, compr_of, discovery_of, message_of, too_many, malformed, unfit, hear}
use Rattle.plain.specs.declared.Base.{Base}
use Rattle.plain.specs.declared.Discovery.{Discovery}
use Rattle.plain.specs.declared.Target.{Target}
use Rattle.targets.specs.declared.Targets.{Targets}
use Rattle.targets.specs.Collected.{Gathered}
use Rattle.option_body.proofs.Laws.{compr_below}
use Rattle.reader.specs.declared.Reading.{Reading}
use Rattle.std.specs.Prelude.{Ok}
use Rattle.reader.specs.Reading.{message_read, heard_from, Bounded}
use Rattle.reader.specs.Parts.{Filled}
use Rattle.plain.specs.Octets as octets

-- ---- The vector

length_parts : (n k : ℕ) (xs : List ℕ) → length (parts n k xs) ≡ n
unfolding parts
length_parts zero k xs = refl
length_parts (suc n) k xs = ap suc (length_parts n k (drop k xs))

pub length_restored : (compr : ℕ) (d xs : List ℕ) → length (restored compr d xs) ≡ length xs / (16 - compr)
unfolding restored
length_restored compr d xs = length-map (parts (length xs / address_octets compr) (address_octets compr) xs) _ ∙ length_parts _ _ xs

-- ---- The whole message

message_by : {a b : Base} {c d : Option (List ℕ)} {e f : Discovery} {g h : List Address} {i j : List Target} → a ≡ b → c ≡ d → e ≡ f → g ≡ h → i ≡ j
    → ◌≡◌ {A = octets.Message} (record { base = a; configuration = c; discovery = e; vector = g; targets = i })
    (record { base = b; configuration = d; discovery = f; vector = h; targets = j })
message_by p q r s t = rw (p, q, r, s, t)

module _ {msg : List ℕ} {ts : Targets} {r : Reading} (v : Gathered (targets_of (of_type art_type (options_of msg))) ts)
    (w : Filled msg ts (base_of msg) r) where
  compr_is : r.discovery.compr ≡ compr_of (route_body (options_of msg))
  unfolding discovery_of
  compr_is = ap (λ (d : _). d.compr) w.discovery

  pub compr_most : r.discovery.compr ≤ 15
  compr_most = omega (arith, compr_is, compr_below (route_body (options_of msg)))

  size_is : length (vector_octets (route_body (options_of msg))) ≡ r.size
  size_is = sym (ap length w.vector) ∙ simp (length-take, length-drop) (omega (arith, w.within))

  many_is : ltb 16 (r.size / (16 - r.discovery.compr)) || ts.over ≡ too_many (message_of msg)
  unfolding too_many message_of
  many_is =
      rw (
        length_restored (compr_of (route_body (options_of msg))) (base_of msg).dodagid (vector_octets (route_body (options_of msg))),
        size_is,
        ← compr_is,
        ← v.over,
      )

  vector_is : restored r.discovery.compr r.base.dodagid (take r.size (drop r.at msg))
      ≡ restored (compr_of (route_body (options_of msg))) (base_of msg).dodagid (vector_octets (route_body (options_of msg)))
  vector_is = rw (compr_is, w.base_is, w.vector)

  message_is : ts.over ≡ false → message_read msg r ≡ message_of msg
  unfolding message_of
  message_is e = message_by w.base_is w.configuration w.discovery vector_is (rw (w.count, w.targets) (v.held e))

  module _ (a : malformed msg ≡ false) (b : unfit msg ≡ false) (c : unusable (base_of msg).dodagid ≡ false) where
    pub hear_many : ltb 16 (r.size / (16 - r.discovery.compr)) || ts.over ≡ true → hear msg ≡ octets.Heard.refused 6
    unfolding hear
    hear_many e = rw (a, b, c, ← many_is, e)

    pub hear_heard : ltb 16 (r.size / (16 - r.discovery.compr)) || ts.over ≡ false → heard_from msg (Ok r) ≡ hear msg
    unfolding hear heard_from
    hear_heard e =
        rw (a, b, c, ← many_is, e) (ap octets.Heard.heard (message_is (or_right (ltb 16 (r.size / (16 - r.discovery.compr))) _ e)))

  pub bounded : ltb 16 (r.size / (16 - r.discovery.compr)) || ts.over ≡ false → Bounded (length msg) r
  bounded e = record {
    few = omega (arith, w.count, v.few);
    padded = rw (w.count, w.targets) v.padded;
    within = w.within;
    short = w.short;
    compr = compr_most;
    addresses = ltb-false 16 (r.size / (16 - r.discovery.compr)) (or_left _ _ e);
    alone = w.alone;
  }

-- ---- Refusals

module _ (msg : List ℕ) where
  pub hear_malformed : malformed msg ≡ true → hear msg ≡ octets.Heard.refused 3
  unfolding hear
  hear_malformed a = rw a

  pub hear_unfit : malformed msg ≡ false → unfit msg ≡ true → hear msg ≡ octets.Heard.refused 4
  unfolding hear
  hear_unfit a b = rw (a, b)

  pub hear_unusable : malformed msg ≡ false → unfit msg ≡ false → unusable (base_of msg).dodagid ≡ true → hear msg ≡ octets.Heard.refused 5
  unfolding hear
  hear_unusable a b c = rw (a, b, c)
