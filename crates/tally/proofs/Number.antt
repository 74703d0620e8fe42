-- An answer's number is the number of a count.
use Rattle.std.proofs.Common.{◌<◌, arith}
use Rattle.plain.specs.Tally.{answers}
use Rattle.answer.specs.Answer.{answer_number}
use Rattle.answer.specs.declared.Answer.{Answer}
use Rattle.answer.specs.declared.Answer.TheVariants.{Done, BadCall, WrongState, Malformed, Unfit, BadDodagid, TooMany, OwnDodagid, NoPartner, Loop, CannotElide, LinkNotGood, RankRefused, Stale, NothingNew, NoDelta, VectorFull, NoRow}

pub number_below : (a : Answer) → answer_number a < answers
number_below Done = omega arith
number_below BadCall = omega arith
number_below WrongState = omega arith
number_below Malformed = omega arith
number_below Unfit = omega arith
number_below BadDodagid = omega arith
number_below TooMany = omega arith
number_below OwnDodagid = omega arith
number_below NoPartner = omega arith
number_below Loop = omega arith
number_below CannotElide = omega arith
number_below LinkNotGood = omega arith
number_below RankRefused = omega arith
number_below Stale = omega arith
number_below NothingNew = omega arith
number_below NoDelta = omega arith
number_below VectorFull = omega arith
number_below NoRow = omega arith
