-- What we write are octets: each field fits where it stands, and each option's length fits its octet.
use Prim.Native.Nat.{ℕ, ◌<◌}
use mathlib.Core.Path.{◌≡◌}
use mathlib.Core.Bool.{Bool, true, false, cond, not, ◌||◌}
use mathlib.Core.List.{List, [], ◌∷◌, map}
use mathlib.Core.Option.{Option, some, none}
use native.Mathlib.Omega.{arith}
use lib.Dec.{eqb}
use lib.ListN.{length}
use borrow.Author.Tests.{eqb-true, not-false}
use Rattle.plain.specs.Address.{Address, elide}
use Rattle.plain.specs.Octets.{Opt, sum, word, bit, base_bits, number_bits, art_bits, prefix_octets, elided, base_octets, route_body_octets, bad_configuration, min_hop_rank_increase, default_lifetime, lifetime_unit, configuration_type, art_type}
use Rattle.plain.specs.declared.Base.{Base}
use Rattle.plain.specs.declared.Target.{Target}
use Rattle.plain.specs.declared.Discovery.{Discovery}
use Rattle.lemmas.proofs.Choice.{or_left}
use Rattle.lemmas.proofs.Rules.{most_octets_lem}
use Rattle.lemmas.specs.Each.{Each, Octets}
use Rattle.round.specs.Round.{Whole, WritableBase, WritableConfiguration, WritableDiscovery, WritableVector, WritableTarget, WritesOctets}
use Rattle.lemmas.proofs.Each.{each_append, each_flatten, each_take, each_drop, each_map}
use Rattle.round.proofs.Fields.{word_lt}
use Rattle.round.proofs.Options.{option, octets_of_option, octets_of_options}
use Rattle.round.proofs.Art.{art_body, length_art}
use Rattle.round.proofs.Route.{length_route}
use Rattle.round.proofs.Message.{configurations, route_type_lem, route_type, each_option, options, octets_are}

base_octets_lem : (b : Base) → WritableBase b → Octets (base_octets b)
unfolding base_octets sum
base_octets_lem b w = (
  w.instance,
  (
    w.version,
    (
      omega arith,
      (
        omega arith,
        (word_lt base_bits (bit b.g ∷ 0 ∷ 4 ∷ b.prf ∷ []), (omega arith, (omega arith, (omega arith, w.dodagid.octets)))),
      ),
    ),
  ),
)

-- an option whose body are octets, fewer than 256
option_octets_lem : (kind : ℕ) (body : List ℕ) → kind < 256 → length body < 256 → Octets body → Octets (octets_of_option (option kind body))
option_octets_lem kind body k l h = (k, (l, h))

configuration_length : (body : List ℕ) → bad_configuration body ≡ false → length body ≡ 14
unfolding bad_configuration
configuration_length body e =
    let a : Bool = eqb (min_hop_rank_increase body) 0 in
    let b : Bool = eqb (default_lifetime body) 0 in
    let c : Bool = eqb (lifetime_unit body) 0 in
    let n : Bool = not (eqb (length body) 14) in
    eqb-true (length body) 14 (not-false (eqb (length body) 14) (or_left n a (or_left (n || a) b (or_left (n || a || b) c e))))

configuration_octets_lem : (c : Option (List ℕ)) → WritableConfiguration c
    → Each (λ (o : Opt). Octets (octets_of_option o)) (map (option configuration_type) (configurations c))
configuration_octets_lem none h = tt
configuration_octets_lem (some body) h =
    (option_octets_lem configuration_type body (omega arith) (omega (arith, configuration_length body h.1)) h.0, tt)

number_lt : (reply : Bool) (vs : List ℕ) → word (number_bits reply) vs < 256
unfolding sum
number_lt true vs = word_lt (number_bits true) vs
number_lt false vs = word_lt (number_bits false) vs

elided_octets : (k : ℕ) (v : List Address) → Each Whole v → Octets (elided k v)
elided_octets k v h =
    each_flatten (λ x. x < 256) (map (elide k) v) (each_map Whole Octets (elide k) (λ a w. each_drop (λ x. x < 256) k a w.octets) v h)

sent_octets : (b : Bool) (xs : List ℕ) → Octets xs → Octets (cond b [] xs)
sent_octets true xs h = tt
sent_octets false xs h = h

route_octets_lem : (d : Discovery) (dodagid : Address) (v : List Address) → WritableDiscovery d → WritableVector d dodagid v
    → Octets (octets_of_option (option (route_type_lem d.reply) (route_body_octets d v)))
route_octets_lem d dodagid v w u =
    option_octets_lem (route_type_lem d.reply) (route_body_octets d v) (route_type d.reply).1
    (omega (arith, length_route d dodagid v w u, u.room))
    (unfold route_body_octets in
    (omega arith, (omega arith, (number_lt d.reply (d.number ∷ 0 ∷ []), sent_octets d.h (elided d.compr v) (elided_octets d.compr v u.whole)))))

art_octets_lem : (t : Target) → WritableTarget t → Octets (octets_of_option (option art_type (art_body t)))
unfolding sum
art_octets_lem t w =
    option_octets_lem art_type (art_body t) (omega arith) (omega (arith, length_art t w, most_octets_lem t.plen w.plen))
    (w.seq, (word_lt art_bits (0 ∷ t.plen ∷ []), each_take (λ x. x < 256) (prefix_octets t.plen) t.addr w.whole.octets))

pub writes_octets : WritesOctets
writes_octets m w =
    rw (octets_are m)
    (each_append (λ x. x < 256) (base_octets m.base) (octets_of_options (options m)) (base_octets_lem m.base w.base)
    (each_flatten (λ x. x < 256) (map octets_of_option (options m))
    (each_map (λ (o : Opt). Octets (octets_of_option o)) Octets octets_of_option (λ o h. h) (options m)
    (each_option (λ (o : Opt). Octets (octets_of_option o)) m.configuration m.discovery.reply (route_body_octets m.discovery m.vector) m.targets
    (configuration_octets_lem m.configuration w.configuration)
    (route_octets_lem m.discovery m.base.dodagid m.vector w.discovery w.vector)
    (each_map (λ body. Octets (octets_of_option (option art_type body))) (λ (o : Opt). Octets (octets_of_option o)) (option art_type) (λ body h. h) (map art_body m.targets)
    (each_map WritableTarget (λ body. Octets (octets_of_option (option art_type body))) art_body art_octets_lem m.targets w.targets.each))))))
