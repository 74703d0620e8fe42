-- "RREQ, type 0x0B" and "RREP, type 0x0C": the body that is written is read back to its fields and its vector.
use Prim.Native.Nat.{ℕ, ◌+◌, ◌%◌, ◌<◌}
use mathlib.Core.Path.{◌≡◌, refl, sym, ap}
use mathlib.Core.Bool.{Bool, true, false, cond, not}
use mathlib.Core.List.{List, [], ◌∷◌, flatten}
use native.Mathlib.Omega.{arith}
use lib.Dec.{eqb, ltb}
use lib.ListN.{length, get_or}
use borrow.Author.Tests.{le-ltb}
use Rattle.plain.specs.Address.{Address}
use Rattle.plain.specs.Octets.{sum, word, fields, bit, route_bits, number_bits, word_at, vector_octets, address_octets, h_of, compr_of, number_of, elided, restored, bad_route, discovery_of, route_body_octets}
use Rattle.plain.specs.declared.Discovery.{Discovery}
use Rattle.round.specs.Round.{WritableDiscovery, WritableVector}
use Rattle.round.proofs.Fields.{word_lt, fields_fit, word_back, bit_lt, bit_back}
use Rattle.round.proofs.Address.{elided_whole, restored_elided}

-- the values of the first two octets
abbrev route_values : Discovery → List ℕ
route_values d = bit d.flag ∷ bit d.h ∷ 0 ∷ cond d.h 0 d.compr ∷ d.l ∷ d.limit ∷ []

sent_compr_lt : (b : Bool) (compr : ℕ) → compr < 16 → cond b 0 compr < 16
sent_compr_lt true compr h = omega arith
sent_compr_lt false compr h = h

number_back : (reply : Bool) (number : ℕ) → number < cond reply 64 256
    → get_or (fields (number_bits reply) (word (number_bits reply) (number ∷ 0 ∷ []))) 0 0 ≡ number
number_back true number h = rw (fields_fit (6 ∷ 2 ∷ []) (number ∷ 0 ∷ []) (h, (omega arith, tt)))
number_back false number h = rw (fields_fit (8 ∷ []) (number ∷ 0 ∷ []) (h, tt))

module _ (d : Discovery) (dodagid : Address) (v : List Address) (w : WritableDiscovery d) (u : WritableVector d dodagid v) where
  route_fields : fields route_bits (word_at (route_body_octets d v) 0) ≡ route_values d
  unfolding route_body_octets
  route_fields =
      rw (word_back (word route_bits (route_values d)) [] (unfold sum in word_lt route_bits (route_values d)))
      (fields_fit route_bits (route_values d)
      (bit_lt d.flag, (bit_lt d.h, (omega arith, (sent_compr_lt d.h d.compr w.compr, (w.l, (w.limit, tt)))))))

  flag_back : (k : ℕ) (b : Bool) → get_or (route_values d) k 0 ≡ bit b → eqb (get_or (fields route_bits (word_at (route_body_octets d v) 0)) k 0) 1 ≡ b
  flag_back k b e = rw (route_fields, e) (bit_back b)

  h_back : h_of (route_body_octets d v) ≡ d.h
  h_back = flag_back 1 d.h refl

  compr_back : compr_of (route_body_octets d v) ≡ d.compr
  compr_back = rw (h_back, route_fields) (go d.h refl)
    where
      go : (b : Bool) → d.h ≡ b → cond b 0 (cond b 0 d.compr) ≡ d.compr
      go true e = sym (w.unused e)
      go false e = refl

  pub discovery_back : discovery_of d.reply (route_body_octets d v) ≡ d
  unfolding discovery_of
  discovery_back = λ i. record {
    reply = d.reply;
    flag = flag_back 0 d.flag refl i;
    h = h_back i;
    compr = compr_back i;
    l = ap (λ fs. get_or fs 4 0) route_fields i;
    limit = ap (λ fs. get_or fs 5 0) route_fields i;
    number = number_is i;
  }
    where
      number_is : number_of d.reply (route_body_octets d v) ≡ d.number
      number_is = unfold route_body_octets in number_back d.reply d.number w.number

  -- with H 1 there is no address to elide
  pub vector_octets_lem : vector_octets (route_body_octets d v) ≡ elided d.compr v
  unfolding route_body_octets
  vector_octets_lem = go d.h refl
    where
      go : (b : Bool) → d.h ≡ b → cond b [] (elided d.compr v) ≡ elided d.compr v
      go true e = rw (u.unused e) (unfold flatten in refl)
      go false e = refl

  pub length_route : length (route_body_octets d v) ≡ 3 + length (elided d.compr v)
  length_route = rw (← vector_octets_lem) (unfold route_body_octets in omega arith)

  pub vector_back : restored (compr_of (route_body_octets d v)) dodagid (vector_octets (route_body_octets d v)) ≡ v
  vector_back = rw (compr_back, vector_octets_lem) (restored_elided d.compr dodagid v w.compr u.whole u.shared)

  pub good_route_lem : bad_route (route_body_octets d v) ≡ false
  unfolding bad_route
  good_route_lem =
      rw (le-ltb (length (route_body_octets d v)) 3 (omega (arith, length_route)), compr_back, h_back, vector_octets_lem) (go d.h refl)
    where
      go : (b : Bool) → d.h ≡ b
          → cond b (ltb 3 (length (route_body_octets d v))) (not (eqb (length (elided d.compr v) % address_octets d.compr) 0)) ≡ false
      go true e = le-ltb 3 (length (route_body_octets d v)) (rw (length_route, u.unused e) (unfold flatten in omega arith))
      go false e = rw (elided_whole d.compr v u.whole)
