-- A cleared tally as the record that is lent.
use Rattle.plain.specs.Tally.{cleared}
use Rattle.tally.specs.declared.Tally.{Tally}

abbrev pub no_tally : Tally
no_tally = record { counts = cleared }
