use mathlib.Core.Path.{◌∙◌}
use Rattle.own.specs.Settings.{settings_of}
use Rattle.start_stored.proofs.Stored.{row_is}
use Rattle.start_stored.proofs.start_row.Goals as goal

pub returns : goal.returns
returns c =
    let s = c.args in
    c.padded_request_row.ensures ∙ row_is (settings_of s.o) s.t s.seq s.s s.ts c.of_l.result c.of_l.ensures.means
