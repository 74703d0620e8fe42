-- 01's number for each answer, and what a destination means.
use Rattle.std.specs.Prelude.{ℕ}
use Rattle.plain.specs.Given.{Destination}
use Rattle.answer.specs.declared.Answer.{Answer}
use Rattle.answer.specs.declared.Answer.TheVariants.{Done, BadCall, WrongState, Malformed, Unfit, BadDodagid, TooMany, OwnDodagid, NoPartner, Loop, CannotElide, LinkNotGood, RankRefused, Stale, NothingNew, NoDelta, VectorFull, NoRow}
use Rattle.answer.specs.declared.Destination as code
use Rattle.answer.specs.declared.Destination.TheVariants.{Nowhere, Group, Neighbour, Caller}

-- 01, "Answer numbers"
abbrev pub answer_number : Answer → ℕ
answer_number Done = 0
answer_number BadCall = 1
answer_number WrongState = 2
answer_number Malformed = 3
answer_number Unfit = 4
answer_number BadDodagid = 5
answer_number TooMany = 6
answer_number OwnDodagid = 7
answer_number NoPartner = 8
answer_number Loop = 9
answer_number CannotElide = 10
answer_number LinkNotGood = 11
answer_number RankRefused = 12
answer_number Stale = 13
answer_number NothingNew = 14
answer_number NoDelta = 15
answer_number VectorFull = 16
answer_number NoRow = 17

-- "to the group, to which neighbour, to the caller (OrigNode's path) or, at length 0, nowhere"
abbrev pub destination_of : code.Destination → Destination
destination_of Nowhere = Destination.nowhere
destination_of Group = Destination.group
destination_of (Neighbour a) = Destination.neighbour a
destination_of Caller = Destination.caller
