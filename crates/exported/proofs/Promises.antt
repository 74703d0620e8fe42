-- The contract that is proved of each exported call is `HostPromised`.
use mathlib.Core.Path.{refl}
use Rattle.exported.specs.Promise.{MessageContract, StartContract}

pub message_contract : MessageContract
message_contract M 𝓤 𝓛 mem run κs instances routes forward reply octets own clock seq time link tally r = (refl, refl)

pub start_contract : StartContract
start_contract M 𝓤 𝓛 mem run κs instances routes forward reply targets own clock seq time asking tally r = (refl, refl)
