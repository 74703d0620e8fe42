-- Where the RREQ or RREP and the Configuration are.
use Prim.Native.Nat.{ℕ, zero, suc, ◌+◌, ◌-◌, ◌≤◌, ◌<◌}
use mathlib.Core.Path.{◌≡◌, refl, sym, ap, ◌∙◌}
use mathlib.Core.Bool.{Bool, true, false, not, ◌||◌}
use mathlib.Core.List.{List, [], ◌∷◌}
use mathlib.Core.Option.{some, none}
use native.Mathlib.Omega.{arith}
use lib.Dec.{eqb, ltb}
use lib.ListN.{length, take, drop}
use lib.Seq.{drop-drop, take-nil}
use borrow.Author.Tests.{ltb-false, eqb-true, not-false}
use Rattle.lemmas.proofs.Choice.{or_left, or_right, true_false}
use Rattle.plain.specs.Octets.{Opt, options_of, of_type, first_body, route_body, configuration_type, configuration_of, bad_option, bad_route, bad_configuration, reply_counts, request_counts, unfit, mop_of, h_of, discovery_of}
use Rattle.plain.specs.declared.Discovery.{Discovery}
use Rattle.option.specs.Follows.{option_of, part_of}
use Rattle.scan.specs.declared.Found.{Found}
use Rattle.scan.specs.declared.Scan.{Scan}
use Rattle.scan.specs.Seen.{Right, Told}
use Rattle.scan.specs.Scanned.{Outlined}
use Rattle.reader.specs.Parts.{RouteAt}
use Rattle.option.proofs.Part.{length_part}
use Rattle.fault.proofs.Counts.{request_is, reply_is, first_some}

drop_take : {A : Type 0} (k n : ℕ) (xs : List A) → drop k (take n xs) ≡ take (n - k) (drop k xs)
drop_take zero n xs = let e : n - 0 ≡ n = omega arith in rw e
drop_take (suc k) zero xs = let e : 0 - suc k ≡ 0 = omega arith in rw e
drop_take (suc k) (suc n) [] = sym (take-nil (suc n - suc k))
drop_take (suc k) (suc n) (x ∷ xs) = let e : suc n - suc k ≡ n - k = omega arith in rw e (drop_take k n xs)

-- the vector's octets are a part too
pub part_after : (msg : List ℕ) (start end k : ℕ) → drop k (part_of msg start end) ≡ take (end - start - k) (drop (start + k) msg)
part_after msg start end k = rw (drop_take k (end - start) (drop start msg), drop-drop k start msg)

-- ---- The Configuration

pub configuration_size : {msg : List ℕ} {start end : ℕ} → Right msg configuration_type start end → end ≡ start + 14
unfolding bad_option bad_configuration
configuration_size {msg} {start} {end} w =
    let q : eqb (length (part_of msg start end)) 14 ≡ true = not-false _ (or_left _ _ (or_left _ _ (or_left _ _ w.good))) in
    omega (arith, eqb-true (length (part_of msg start end)) 14 q, length_part msg start end w.within, w.order)

module _ {msg : List ℕ} {f : Found} (v : Told configuration_type msg f) where
  pub configuration_none : f.count ≡ 0 → none ≡ configuration_of (of_type configuration_type (options_of msg))
  configuration_none z = go (of_type configuration_type (options_of msg)) refl
    where
      go : (os : List Opt) → of_type configuration_type (options_of msg) ≡ os → none ≡ configuration_of os
      go [] e = refl
      go (o ∷ os) e = let q = rw e at v.count in absurd (omega (arith, q, z))

  pub configuration_some : (c : List ℕ) → (f.count ≡ 0 → ⊥) → c ≡ part_of msg f.start f.end
      → some c ≡ configuration_of (of_type configuration_type (options_of msg))
  configuration_some c n h = go (of_type configuration_type (options_of msg)) refl
    where
      go : (os : List Opt) → of_type configuration_type (options_of msg) ≡ os → some c ≡ configuration_of os
      go [] e = let q = rw e at v.count in absurd (n (omega (arith, q)))
      go (o ∷ os) e =
          let q = rw e at v.count in
          let p : 0 < f.count = omega (arith, q) in
          ap some (h ∙ sym (v.body p) ∙ ap first_body e)

-- ---- The RREQ or RREP

module _ {msg : List ℕ} {f : Found} {kind : ℕ} (v : Told kind msg f) (h : 0 < f.count)
    (k : (body : List ℕ) → bad_option (option_of kind body) ≡ bad_route body) where
  route_good : bad_route (part_of msg f.start f.end) ≡ false
  route_good = sym (k _) ∙ (v.right h).good

  route_at : route_body (options_of msg) ≡ first_body (of_type kind (options_of msg)) → RouteAt msg f
  unfolding bad_route
  route_at e =
      let w = v.right h in
      let n = length_part msg f.start f.end w.within in
      let l : 3 ≤ length (part_of msg f.start f.end) = ltb-false (length (part_of msg f.start f.end)) 3 (or_left _ _ route_good) in
      record {
        body = e ∙ v.body h;
        long = omega (arith, n, l, w.order);
        short = w.short;
        within = w.within;
        alone = λ a.
            let m = ltb-false 3 (length (part_of msg f.start f.end)) (rw a at (or_right (ltb (length (part_of msg f.start f.end)) 3) _ route_good)) in
            omega (arith, n, l, m, w.order);
      }

pub h_is : (d : Discovery) (b : Bool) (body : List ℕ) → d ≡ discovery_of b body → d.h ≡ h_of body
unfolding discovery_of
h_is d b body e = ap (λ (x : Discovery). x.h) e

pub route_reply : {msg : List ℕ} {s : Scan} → Outlined msg s → reply_counts (options_of msg) ≡ true → RouteAt msg s.rrep
unfolding bad_option
route_reply v e = route_at v.rrep (first_some _ _ _ (reply_is v ∙ e)) (λ body. refl) (rw e)

or_only : (a b : Bool) → a || b ≡ true → b ≡ false → a ≡ true
or_only true b e f = refl
or_only false b e f = true_false (sym e ∙ f)

pub route_request : {msg : List ℕ} {s : Scan} → Outlined msg s → reply_counts (options_of msg) ≡ false → unfit msg ≡ false → RouteAt msg s.rreq
unfolding bad_option unfit
route_request {msg} v e u =
    let q : request_counts (options_of msg) ≡ true = or_only _ _ (not-false _ (or_right (not (eqb (mop_of msg) 4)) _ u)) e in
    route_at v.rreq (first_some _ _ _ (request_is v ∙ q)) (λ body. refl) (rw e)
