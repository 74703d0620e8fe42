-- Targets: none of a message, or of a start that is no bad call, has a Prefix Length over 127.
use mathlib.Core.Path.{◌≡◌}
use mathlib.Core.Bool.{true, false}
use mathlib.Core.List.{List, [], map}
use Prim.Native.Nat.{ℕ, ◌<◌}
use native.Mathlib.Omega.{arith}
use borrow.Author.Tests.{ltb-false, le-leb}
use Rattle.plain.specs.Lists.{any, once}
use Rattle.plain.specs.Given.{Start}
use Rattle.plain.specs.Octets.{Opt, options_of, of_type, art_type, target_of, plen_of, same_target, message_of, fields, sum}
use Rattle.plain.specs.Answers.{long_prefix, short_prefix}
use Rattle.plain.specs.Request.{whole_bits, start_targets}
use Rattle.plain.specs.declared.Target.{Target}
use Rattle.lemmas.specs.Each.{Each}
use Rattle.lemmas.proofs.Each.{each_always, each_weaken, each_once, each_map, any_none}

-- what a list of targets has past its end
abbrev pub target_past : Target
target_past = record { seq = 0; plen = 0; addr = [] }

abbrev pub Short : Target → Type 0
Short t = short_prefix t ≡ true

-- Prefix Length has seven bits
pub plen_below : (body : List ℕ) → plen_of body < 128
unfolding fields sum
plen_below body = omega arith

target_short : (body : List ℕ) → Short (target_of body)
unfolding target_of
target_short body = le-leb (plen_of body) 127 (omega (arith, plen_below body))

pub targets_short : (msg : List ℕ) → Each Short (message_of msg).targets
unfolding message_of
targets_short msg =
    let arts : List Opt = of_type art_type (options_of msg) in
    each_once Short same_target [] (map (λ (o : Opt). target_of o.body) arts)
    (each_map (λ (o : Opt). Short (target_of o.body)) Short (λ (o : Opt). target_of o.body) (λ o k. k) arts
    (each_always (λ (o : Opt). Short (target_of o.body)) (λ o. target_short o.body) arts))

-- no prefix gets longer where repeats are left out and spare bits become zero
pub start_short : (c : Start) → any long_prefix c.targets ≡ false → Each Short (start_targets c)
unfolding start_targets whole_bits
start_short c e =
    each_map Short Short whole_bits (λ t k. k) (once same_target c.targets)
    (each_once Short same_target [] c.targets
    (each_weaken (λ (t : Target). long_prefix t ≡ false) Short (λ t k. le-leb t.plen 127 (ltb-false 127 t.plen k)) c.targets
    (any_none long_prefix c.targets e)))
