-- The options of a message that is written: "Configuration if present, RREQ .., ARTs in arrival order", and an RREP in its place in a
-- reply.
use Prim.Native.Nat.{ℕ, ◌≤◌, ◌<◌}
use mathlib.Core.Path.{◌≡◌, refl, ◌∙◌}
use mathlib.Core.Logic.{◌≢◌}
use mathlib.Core.Bool.{Bool, true, false, cond, ◌||◌}
use mathlib.Core.List.{List, [], ◌∷◌, ◌++◌, map, flatten, append_assoc, append-nil, map-map}
use mathlib.Core.Option.{Option, some, none}
use native.Mathlib.Omega.{arith}
use lib.Dec.{eqb, ltb}
use borrow.Author.Tests.{lt-ltb}
use lib.ListN.{length, length-append, length-map}
use lib.Seq.{drop_at}
use Rattle.plain.specs.Octets.{Message, Opt, options_of, of_type, first_body, configuration_of, request_counts, reply_counts, configuration_type, rreq_type, rrep_type, art_type, base_octets, configuration_octets, route_octets, route_body_octets, art_octets, octets_of}
use Rattle.plain.specs.declared.Target.{Target}
use Rattle.plain.specs.declared.Discovery.{Discovery}
use Rattle.plain.specs.Address.{Address}
use Rattle.lemmas.specs.Each.{Each}
use Rattle.lemmas.proofs.Each.{each_append}
use Rattle.round.specs.Round.{WritableBase}
use Rattle.round.proofs.Lists.{those_append}
use Rattle.round.proofs.Options.{option, octets_of_option, octets_of_options, options_back, options_short, octets_append, kinds_are, those_are}
use Rattle.round.proofs.Base.{length_base}
use Rattle.round.proofs.Art.{art_body}

-- the bodies of its Configurations, of its RREQ or RREP, and of its ARTs
abbrev pub configurations : Option (List ℕ) → List (List ℕ)
configurations none = []
configurations (some body) = body ∷ []

abbrev pub route_type_lem : Bool → ℕ
route_type_lem reply = cond reply rrep_type rreq_type

abbrev pub option_list : Option (List ℕ) → Bool → List ℕ → List Target → List Opt
option_list c reply body ts =
    map (option configuration_type) (configurations c) ++ map (option (route_type_lem reply)) (body ∷ []) ++ map (option art_type) (map art_body ts)

-- what holds of the Configurations, of the RREQ or RREP, and of the ARTs, holds of each option
pub each_option : (P : Opt → Type 0) (c : Option (List ℕ)) (reply : Bool) (body : List ℕ) (ts : List Target)
    → Each P (map (option configuration_type) (configurations c)) → P (option (route_type_lem reply) body)
    → Each P (map (option art_type) (map art_body ts)) → Each P (option_list c reply body ts)
each_option P c reply body ts p q r =
    let cs : List Opt = map (option configuration_type) (configurations c) in
    let rs : List Opt = map (option (route_type_lem reply)) (body ∷ []) in
    each_append P (cs ++ rs) (map (option art_type) (map art_body ts)) (each_append P cs rs p (q, tt)) r

pub route_type : (reply : Bool) → (0 < route_type_lem reply) × (route_type_lem reply < 256)
route_type true = omega arith
route_type false = omega arith

-- ---- They are what is written after the base

configuration_octets_lem : (c : Option (List ℕ)) → configuration_octets c ≡ octets_of_options (map (option configuration_type) (configurations c))
unfolding configuration_octets flatten
configuration_octets_lem none = refl
configuration_octets_lem (some body) = rw (append-nil body)

route_octets_lem : (d : Discovery) (v : List Address)
    → route_octets d v ≡ octets_of_options (map (option (route_type_lem d.reply)) (route_body_octets d v ∷ []))
unfolding route_octets flatten
route_octets_lem d v = rw (append-nil (route_body_octets d v))

art_octets_lem : (ts : List Target) → flatten (map art_octets ts) ≡ octets_of_options (map (option art_type) (map art_body ts))
unfolding art_octets
art_octets_lem ts = rw (map-map (option art_type) art_body ts, map-map octets_of_option (λ t. option art_type (art_body t)) ts)

append_four : (a b c d : List ℕ) → a ++ b ++ c ++ d ≡ a ++ (b ++ c ++ d)
append_four a b c d = rw (append_assoc a b c, append_assoc a (b ++ c) d)

module _ (m : Message) where
  abbrev pub options : List Opt
  options = option_list m.configuration m.discovery.reply (route_body_octets m.discovery m.vector) m.targets

  pub octets_are : octets_of m ≡ base_octets m.base ++ octets_of_options options
  unfolding octets_of
  octets_are =
      let cs : List Opt = map (option configuration_type) (configurations m.configuration) in
      let rs : List Opt = map (option (route_type_lem m.discovery.reply)) (route_body_octets m.discovery m.vector ∷ []) in
      let ts : List Opt = map (option art_type) (map art_body m.targets) in
      rw (configuration_octets_lem m.configuration, route_octets_lem m.discovery m.vector, art_octets_lem m.targets, octets_append (cs ++ rs) ts, octets_append cs rs)
      (append_four (base_octets m.base) (octets_of_options cs) (octets_of_options rs) (octets_of_options ts))

  pub long_enough : WritableBase m.base → 24 ≤ length (octets_of m)
  long_enough w = rw octets_are (omega (arith, length_base m.base w, length-append (base_octets m.base) (octets_of_options options)))

  pub options_are : WritableBase m.base → options_of (octets_of m) ≡ some options
  options_are w =
      rw (octets_are, drop_at (base_octets m.base) (octets_of_options options) 24 (length_base m.base w))
      (options_back options (length (base_octets m.base ++ octets_of_options options)) kinds
      (omega (arith, options_short options, length-append (base_octets m.base) (octets_of_options options))))
    where
      kinds : Each (λ (o : Opt). o.kind ≢ 0) options
      kinds =
          each_option (λ (o : Opt). o.kind ≢ 0) m.configuration m.discovery.reply (route_body_octets m.discovery m.vector) m.targets
          (kinds_are configuration_type (omega arith) (configurations m.configuration))
          (omega (arith, route_type m.discovery.reply))
          (kinds_are art_type (omega arith) (map art_body m.targets))

-- ---- Those of each type

-- the Configurations, the RREQ or RREP, and the ARTs: those of a type are all of each of the three that has it
of_type_lem : (K : ℕ) (c : Option (List ℕ)) (reply : Bool) (body : List ℕ) (ts : List Target)
    → of_type K (some (option_list c reply body ts))
    ≡ cond (eqb configuration_type K) (map (option configuration_type) (configurations c)) []
    ++ cond (eqb (route_type_lem reply) K) (option (route_type_lem reply) body ∷ []) []
    ++ cond (eqb art_type K) (map (option art_type) (map art_body ts)) []
of_type_lem K c reply body ts =
    let is : Opt → Bool = λ o. eqb o.kind K in
    let cs : List Opt = map (option configuration_type) (configurations c) in
    let rs : List Opt = map (option (route_type_lem reply)) (body ∷ []) in
    rw (
      those_append is (cs ++ rs) (map (option art_type) (map art_body ts)),
      those_append is cs rs,
      those_are configuration_type K (configurations c),
      those_are (route_type_lem reply) K (body ∷ []),
      those_are art_type K (map art_body ts),
    )

pub record Sorted (c : Option (List ℕ)) (reply : Bool) (body : List ℕ) (ts : List Target) : Type 0 where
  pub configurations_are : of_type configuration_type (some (option_list c reply body ts)) ≡ map (option configuration_type) (configurations c)
  pub rreqs_are : of_type rreq_type (some (option_list c reply body ts)) ≡ cond reply [] (option rreq_type body ∷ [])
  pub rreps_are : of_type rrep_type (some (option_list c reply body ts)) ≡ cond reply (option rrep_type body ∷ []) []
  pub arts_are : of_type art_type (some (option_list c reply body ts)) ≡ map (option art_type) (map art_body ts)

pub sorted : (c : Option (List ℕ)) (reply : Bool) (body : List ℕ) (ts : List Target) → Sorted c reply body ts
sorted c true body ts = record {
  configurations_are = of_type_lem configuration_type c true body ts ∙ append-nil _ ∙ append-nil _;
  rreqs_are = of_type_lem rreq_type c true body ts;
  rreps_are = of_type_lem rrep_type c true body ts;
  arts_are = of_type_lem art_type c true body ts;
}
sorted c false body ts = record {
  configurations_are = of_type_lem configuration_type c false body ts ∙ append-nil _ ∙ append-nil _;
  rreqs_are = of_type_lem rreq_type c false body ts;
  rreps_are = of_type_lem rrep_type c false body ts;
  arts_are = of_type_lem art_type c false body ts;
}

-- ---- What is asked of them

pub reply_counts_lem : (c : Option (List ℕ)) (reply : Bool) (body : List ℕ) (ts : List Target) → (reply ≡ true → length ts ≡ 1)
    → reply_counts (some (option_list c reply body ts)) ≡ reply
unfolding reply_counts
reply_counts_lem c true body ts h =
    let s = sorted c true body ts in
    rw (s.rreps_are, s.rreqs_are, s.arts_are, length-map (map art_body ts) (option art_type), length-map ts art_body, h refl)
reply_counts_lem c false body ts h = rw (sorted c false body ts).rreps_are

-- "A request has one RREQ, no RREP, one ART or more; a reply one RREP, no RREQ, one ART"
pub counts_fit : (c : Option (List ℕ)) (reply : Bool) (body : List ℕ) (ts : List Target) → (reply ≡ true → length ts ≡ 1) → 1 ≤ length ts
    → request_counts (some (option_list c reply body ts)) || reply_counts (some (option_list c reply body ts)) ≡ true
unfolding request_counts
counts_fit c true body ts h l = rw (reply_counts_lem c true body ts h, (sorted c true body ts).rreqs_are)
counts_fit c false body ts h l =
    let s = sorted c false body ts in
    rw (s.rreqs_are, s.rreps_are, s.arts_are, length-map (map art_body ts) (option art_type), length-map ts art_body, lt-ltb 0 (length ts) l)

pub route_first : (c : Option (List ℕ)) (reply : Bool) (body : List ℕ) (ts : List Target)
    → first_body (of_type (route_type_lem reply) (some (option_list c reply body ts))) ≡ body
route_first c true body ts = rw (sorted c true body ts).rreps_are
route_first c false body ts = rw (sorted c false body ts).rreqs_are

pub configuration_first : (c : Option (List ℕ)) → configuration_of (map (option configuration_type) (configurations c)) ≡ c
configuration_first none = refl
configuration_first (some body) = refl

-- "One DODAG Configuration .. at most"
pub configuration_once : (c : Option (List ℕ)) → ltb 1 (length (map (option configuration_type) (configurations c))) ≡ false
configuration_once none = refl
configuration_once (some body) = refl
