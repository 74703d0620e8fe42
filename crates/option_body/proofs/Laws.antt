-- The fields of an RREQ or RREP.
use Prim.Native.Nat.{ℕ, ◌-◌, ◌/◌, ◌%◌, ◌≤◌, ◌<◌}
use mathlib.Core.Path.{◌≡◌}
use mathlib.Core.Bool.{false, not}
use mathlib.Core.List.{List}
use native.Mathlib.Omega.{arith}
use lib.ListN.{length, length-drop}
use lib.Dec.{eqb}
use borrow.Author.Tests.{le-ltb}
use Rattle.plain.specs.Octets.{fields, sum, word_at, compr_of, h_of, bad_route}
use Rattle.lemmas.proofs.Choice.{cond_case}

pub compr_below : (body : List ℕ) → compr_of body < 16
unfolding fields sum
compr_below body = cond_case (λ (n : ℕ). n < 16) (h_of body) 0 _ (λ _. omega arith) (λ _. omega arith)

module _ (body : List ℕ) (w : ℕ) (e : w ≡ word_at body 0) where
  pub compr_is : h_of body ≡ false → w / 512 % 16 ≡ compr_of body
  unfolding fields sum
  compr_is h = rw (h, e)

pub vector_is : (body : List ℕ) → 3 ≤ length body → h_of body ≡ false
    → not (eqb ((length body - 3) % (16 - compr_of body)) 0) ≡ bad_route body
unfolding bad_route
vector_is body l h = rw (le-ltb (length body) 3 l, h, length-drop 3 body)
