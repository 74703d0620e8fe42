use Rattle.std.proofs.Common.{rules}
use Rattle.std.proofs.Output.{has_written_append, has_written_of_eq}
use Rattle.std.proofs.lemmas.Str.{IsUtf8-from_ascii}
use Rattle.line.proofs.Laws.{digits_ascii, hex_more}
use Rattle.line.proofs.HexDisplay.fmt.Goals as goal

pub from_utf8_unchecked-text-requires : goal.from_utf8_unchecked-text-requires
from_utf8_unchecked-text-requires g c = rw c.digits-two.ensures (IsUtf8-from_ascii _ (digits_ascii _ (search rules)))

pub loop-x-preserved : goal.loop-x-preserved
loop-x-preserved g c = λ plain.
    has_written_of_eq _ _ _ _ _ (hex_more c.args.self.now.0.now c.loop-x.x-index (search rules))
    (has_written_append _ _ _ _ _ _ (c.loop-x.invariant plain) (search rules))
