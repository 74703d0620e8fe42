-- What a buffer holds after something was written at its front.
use Rattle.std.specs.Prelude.{ℕ, ◌≡◌, List, ◌++◌, length, drop}

-- xs at the front of d: "Octets past the reported lengths keep what they held."
abbrev pub over : {A : Type 0} → List A → List A → List A
over xs d = xs ++ drop (length xs) d

-- A writer's contract: the octets at the front of the buffer that it was lent, the rest as it was, and how many octets that is.
pub record Written (octets before after : List ℕ) (r : ℕ) : Type 0 where
  pub count : r ≡ length octets
  pub holds : after ≡ over octets before
