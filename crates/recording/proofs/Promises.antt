-- The contract that is proved of each public call is `Promised`.
use mathlib.Core.Path.{refl}
use Rattle.recording.specs.Promise.{MessageContract, StartContract}

pub message_contract : MessageContract
message_contract M 𝓤 𝓛 mem run κs instances routes forward reply octets o clock seq t k r = (refl, refl)

pub start_contract : StartContract
start_contract M 𝓤 𝓛 mem run κs instances routes forward reply targets o clock seq t asking r = (refl, refl)
