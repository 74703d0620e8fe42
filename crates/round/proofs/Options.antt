-- "each other option is type, length, body": options that were written are read back.
use Prim.Native.Nat.{ℕ, zero, suc, ◌≤◌}
use mathlib.Core.Path.{◌≡◌, refl, sym, ◌∙◌}
use mathlib.Core.Logic.{◌≢◌}
use mathlib.Core.Bool.{cond}
use mathlib.Core.List.{List, [], ◌∷◌, ◌++◌, map, flatten, append_assoc}
use mathlib.Core.Option.{some}
use native.Mathlib.Omega.{arith}
use lib.Dec.{eqb}
use lib.ListN.{length, length-append}
use lib.Seq.{take-append_seam, drop-append_seam}
use borrow.Author.Tests.{le-leb, ne_eqb}
use Rattle.plain.specs.Lists.{those}
use Rattle.plain.specs.Octets.{Opt, options_in, option_octets, followed_by}
use Rattle.lemmas.specs.Each.{Each}
use Rattle.round.proofs.Lists.{those_map}

-- one option in front of others
pub option_first : (n kind : ℕ) (body xs : List ℕ) → kind ≢ 0
    → options_in (suc n) (option_octets kind body ++ xs) ≡ followed_by (record { kind = kind; body = body }) (options_in n xs)
unfolding options_in
option_first n kind body xs h =
    rw (ne_eqb kind 0 h, le-leb (length body) (length (body ++ xs)) (omega (arith, length-append body xs)), take-append_seam body xs, drop-append_seam body xs)

abbrev pub octets_of_option : Opt → List ℕ
octets_of_option o = option_octets o.kind o.body

abbrev pub octets_of_options : List Opt → List ℕ
octets_of_options os = flatten (map octets_of_option os)

-- any number of options, in as many steps as there are or more
pub options_back : (os : List Opt) (n : ℕ) → Each (λ (o : Opt). o.kind ≢ 0) os → length os ≤ n → options_in n (octets_of_options os) ≡ some os
unfolding options_in flatten
options_back [] zero h l = refl
options_back [] (suc n) h l = refl
options_back (o ∷ os) zero h l = absurd (omega arith)
options_back (o ∷ os) (suc n) h l =
    option_first n o.kind o.body (octets_of_options os) h.0
    ∙ rw (options_back os n h.1 (omega arith))

-- each option has two octets or more
pub options_short : (os : List Opt) → length os ≤ length (octets_of_options os)
unfolding flatten
options_short [] = omega arith
options_short (o ∷ os) = omega (arith, length-append o.body (octets_of_options os), options_short os)

-- Options that are written one after the other.
pub octets_append : (os qs : List Opt) → octets_of_options (os ++ qs) ≡ octets_of_options os ++ octets_of_options qs
unfolding flatten
octets_append [] qs = refl
octets_append (o ∷ os) qs = rw (octets_append os qs) (sym (append_assoc (octets_of_option o) (octets_of_options os) (octets_of_options qs)))

-- ---- Options of one type

abbrev pub option : ℕ → List ℕ → Opt
option kind body = record { kind = kind; body = body }

pub kinds_are : (kind : ℕ) → kind ≢ 0 → (bodies : List (List ℕ)) → Each (λ (o : Opt). o.kind ≢ 0) (map (option kind) bodies)
kinds_are kind h [] = tt
kinds_are kind h (b ∷ bodies) = (h, kinds_are kind h bodies)

-- of options of one type, those of a type: all or none
pub those_are : (kind K : ℕ) (bodies : List (List ℕ))
    → those (λ (o : Opt). eqb o.kind K) (map (option kind) bodies) ≡ cond (eqb kind K) (map (option kind) bodies) []
those_are kind K bodies = those_map (λ (o : Opt). eqb o.kind K) (option kind) (eqb kind K) (λ b. refl) bodies
