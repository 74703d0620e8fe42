-- The only target of a reply.
use Prim.Native.Nat.{ℕ, zero, suc, ◌<◌}
use mathlib.Core.Path.{◌≡◌, refl}
use mathlib.Core.List.{List, [], ◌∷◌}
use native.Mathlib.Omega.{arith}
use lib.ListN.{length, get_or, take}
use Rattle.plain.specs.Reply.{only_target}
use Rattle.plain.specs.declared.Target.{Target}
use Rattle.lemmas.proofs.Targets.{target_past}

-- a message with targets has its first as the only one
pub only_first : (n : ℕ) (ts : List Target) → (n ≡ 0 → ⊥) → 0 < length ts → only_target (take n ts) ≡ get_or ts 0 target_past
only_first zero ts h k = absurd (h refl)
only_first (suc n) [] h k = absurd (omega arith)
only_first (suc n) (t ∷ ts) h k = refl
