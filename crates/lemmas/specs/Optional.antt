-- What an Option of the code is in the rules' words.
use Rattle.std.specs.Prelude.{Option, Some, None}
use Rattle.std.proofs.Math.Option as rules
use Rattle.std.proofs.Math.Option.{some, none}

abbrev pub of_option : {A : Type 0} → Option A → rules.Option A
of_option None = none
of_option (Some x) = some x
