-- What the facts of a reply come to.
use mathlib.Core.Path.{◌≡◌, refl, sym}
use mathlib.Core.Bool.{Bool, true, false, not, ◌&&◌}
use Rattle.plain.specs.Octets.{Message}
use Rattle.plain.specs.Reply.{Answered, grows}
use Rattle.lemmas.proofs.Choice.{true_false}

module _ (m : Message) (a : Answered) where
  pub grows_h : grows m a ≡ true → m.discovery.h ≡ false
  unfolding grows
  grows_h e = go a.symmetric a.is_orig m.discovery.h e
    where
      go : (s o h : Bool) → not s && not o && not h ≡ true → h ≡ false
      go s o false e = refl
      go true o true e = true_false (sym e)
      go false true true e = true_false (sym e)
      go false false true e = true_false (sym e)
