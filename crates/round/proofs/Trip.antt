-- What we write, we read back to the same fields.
use Prim.Native.Nat.{ℕ}
use mathlib.Core.Path.{◌≡◌, refl, ◌∙◌}
use mathlib.Core.Bool.{Bool, true, false, not, ◌&&◌}
use mathlib.Core.List.{List, [], ◌∷◌, map, map-map}
use mathlib.Core.Option.{Option, some, none}
use native.Mathlib.Omega.{arith}
use lib.Dec.{eqb}
use lib.ListN.{length, drop}
use lib.Seq.{take-append_seam}
use borrow.Author.Tests.{le-ltb}
use Rattle.plain.specs.Octets.{Message, Opt, hear, octets_of, options_of, of_type, first_body, configuration_of, discovery_of, restored, compr_of, vector_octets, route_body, route_body_octets, reply_counts, plen_of, target_of, targets_of, base_of, mop_of, message_of, malformed, unfit, too_many, any_bad, bad_option, bad_route, bad_art, configuration_type, art_type, most_addresses, most_targets}
use Rattle.plain.specs.declared.Target.{Target}
use Rattle.lemmas.specs.Each.{Each}
use Rattle.lemmas.proofs.Each.{each_map, each_weaken, each_settles}
use Rattle.round.specs.Round.{Writable, WritableConfiguration, WritableTarget, RoundTrip, BufferRoundTrip}
use Rattle.round.proofs.Lists.{map_same}
use Rattle.round.proofs.Options.{option, octets_of_options}
use Rattle.round.proofs.Base.{mop_back, base_back}
use Rattle.round.proofs.Art.{art_body, plen_back, target_back, good_art}
use Rattle.round.proofs.Route.{discovery_back, vector_back, good_route_lem}
use Rattle.round.proofs.Message.{configurations, route_type_lem, each_option, options, octets_are, long_enough, options_are, Sorted, sorted, reply_counts_lem, counts_fit, route_first, configuration_first, configuration_once}

-- ---- No option has a wrong body

good_configurations : (c : Option (List ℕ)) → WritableConfiguration c
    → Each (λ (o : Opt). bad_option o ≡ false) (map (option configuration_type) (configurations c))
unfolding bad_option
good_configurations none h = tt
good_configurations (some body) h = (h.1, tt)

route_option : (reply : Bool) (body : List ℕ) → bad_option (option (route_type_lem reply) body) ≡ bad_route body
unfolding bad_option
route_option true body = refl
route_option false body = refl

good_arts : (ts : List Target) → Each WritableTarget ts → Each (λ (o : Opt). bad_option o ≡ false) (map (option art_type) (map art_body ts))
unfolding bad_option
good_arts ts h =
    each_map (λ body. bad_art body ≡ false) (λ (o : Opt). bad_option o ≡ false) (option art_type) (λ body e. e) (map art_body ts)
    (each_map WritableTarget (λ body. bad_art body ≡ false) art_body good_art ts h)

-- ---- The targets

targets_back : (ts : List Target) → Each WritableTarget ts
    → map (λ (o : Opt). target_of o.body) (map (option art_type) (map art_body ts)) ≡ ts
targets_back ts h =
    rw (map-map (option art_type) art_body ts, map-map (λ (o : Opt). target_of o.body) (λ t. option art_type (art_body t)) ts)
    (map_same (λ t. target_of (art_body t)) ts (each_weaken WritableTarget (λ t. target_of (art_body t) ≡ t) target_back ts h))

-- "one ART, which must be a whole address"
first_whole : (ts : List Target) → length ts ≡ 1 → Each WritableTarget ts → Each (λ (t : Target). t.plen ≡ 0) ts
    → plen_of (first_body (map (option art_type) (map art_body ts))) ≡ 0
first_whole [] l h z = absurd (omega arith)
first_whole (t ∷ ts) l h z = plen_back t h.0 ∙ z.0

module _ (m : Message) (w : Writable m) where
  abbrev body : List ℕ
  body = route_body_octets m.discovery m.vector

  are : options_of (octets_of m) ≡ some (options m)
  are = options_are m w.base

  sort : Sorted m.configuration m.discovery.reply body m.targets
  sort = sorted m.configuration m.discovery.reply body m.targets

  reply_is : reply_counts (options_of (octets_of m)) ≡ m.discovery.reply
  reply_is =
      rw are (reply_counts_lem m.configuration m.discovery.reply body m.targets w.targets.one)

  base_is : base_of (octets_of m) ≡ m.base
  base_is = rw (octets_are m) (base_back m.base w.base (octets_of_options (options m)))

  body_is : route_body (options_of (octets_of m)) ≡ body
  body_is =
      rw (reply_is, are) (route_first m.configuration m.discovery.reply body m.targets)

  -- no 3
  options_good : any_bad (options_of (octets_of m)) ≡ false
  options_good =
      rw are
      (each_settles true bad_option (options m)
      (each_option (λ (o : Opt). bad_option o ≡ false) m.configuration m.discovery.reply body m.targets
      (good_configurations m.configuration w.configuration)
      (route_option m.discovery.reply body
      ∙ good_route_lem m.discovery m.base.dodagid m.vector w.discovery w.vector)
      (good_arts m.targets w.targets.each)))

  reply_whole : reply_counts (options_of (octets_of m)) && not (eqb (plen_of (first_body (of_type art_type (options_of (octets_of m))))) 0) ≡ false
  reply_whole = rw (reply_is, are, sort.arts_are) (go m.discovery.reply refl)
    where
      go : (b : Bool) → m.discovery.reply ≡ b
          → b && not (eqb (plen_of (first_body (map (option art_type) (map art_body m.targets)))) 0) ≡ false
      go true e = rw (first_whole m.targets (w.targets.one e) w.targets.each (w.targets.prefix e))
      go false e = refl

  not_malformed : malformed (octets_of m) ≡ false
  unfolding malformed
  not_malformed =
      rw (le-ltb (length (octets_of m)) 24 (long_enough m w.base), options_good, reply_whole, are, sort.configurations_are)
      (rw (configuration_once m.configuration))

  -- no 4
  mop_is : mop_of (octets_of m) ≡ 4
  mop_is = rw (octets_are m) (mop_back m.base w.base (octets_of_options (options m)))

  not_unfit : unfit (octets_of m) ≡ false
  unfolding unfit
  not_unfit =
      rw (mop_is, are)
      (rw (counts_fit m.configuration m.discovery.reply body m.targets w.targets.one w.targets.least))

  -- no 6
  not_too_many : too_many m ≡ false
  unfolding too_many
  not_too_many = rw (le-ltb most_addresses (length m.vector) w.vector.most, le-ltb most_targets (length m.targets) w.targets.most)

  message_is : message_of (octets_of m) ≡ m
  unfolding message_of
  message_is = λ i. record {
    base = base_is i;
    configuration = configuration_is i;
    discovery = discovery_is i;
    vector = vector_is i;
    targets = targets_are i;
  }
    where
      configuration_is : configuration_of (of_type configuration_type (options_of (octets_of m))) ≡ m.configuration
      configuration_is = rw (are, sort.configurations_are) (configuration_first m.configuration)

      discovery_is : discovery_of (reply_counts (options_of (octets_of m))) (route_body (options_of (octets_of m))) ≡ m.discovery
      discovery_is = rw (body_is, reply_is) (discovery_back m.discovery m.base.dodagid m.vector w.discovery w.vector)

      vector_is : restored (compr_of (route_body (options_of (octets_of m)))) (base_of (octets_of m)).dodagid (vector_octets (route_body (options_of (octets_of m)))) ≡ m.vector
      vector_is = rw (body_is, base_is) (vector_back m.discovery m.base.dodagid m.vector w.discovery w.vector)

      targets_are : targets_of (of_type art_type (options_of (octets_of m))) ≡ m.targets
      targets_are = rw (are, sort.arts_are, targets_back m.targets w.targets.each) w.targets.twice

pub round_trip : RoundTrip
unfolding hear
round_trip m w = rw (not_malformed m w, not_unfit m w, base_is m w, message_is m w, w.base.usable, not_too_many m w)

pub round_trip_buffer : BufferRoundTrip
round_trip_buffer m w before after r h =
    rw (h.holds, h.count, take-append_seam (octets_of m) (drop (length (octets_of m)) before)) (round_trip m w)
