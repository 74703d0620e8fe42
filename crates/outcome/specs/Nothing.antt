-- What a refusal says of both buffers.
use Rattle.answer.specs.declared.Destination.TheVariants.{Nowhere}
use Rattle.outcome.specs.declared.Sent.{Sent}

-- "lengths zero, destinations nowhere"
abbrev pub nothing_sent : Sent
nothing_sent = record { size = 0; to = Nowhere }
