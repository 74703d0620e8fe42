-- The parts of a message that is not refused.
use Rattle.std.specs.Prelude.{ℕ, ◌+◌, ◌≤◌, ◌≡◌, true, List, length, take, drop}
use Rattle.lemmas.specs.Optional.{of_option}
use Rattle.plain.specs.Octets.{options_of, of_type, configuration_type, configuration_of, route_body, reply_counts, discovery_of, vector_octets, h_of}
use Rattle.plain.specs.declared.Base.{Base}
use Rattle.targets.specs.declared.Targets.{Targets}
use Rattle.option.specs.Follows.{part_of}
use Rattle.scan.specs.declared.Found.{Found}
use Rattle.reader.specs.declared.Reading.{Reading}

-- where the body of the RREQ or RREP is: "an RREQ or RREP body under 3 octets" is not, nor "With H 1" a vector
pub record RouteAt (msg : List ℕ) (f : Found) : Type 0 where
  pub body : route_body (options_of msg) ≡ part_of msg f.start f.end
  pub long : f.start + 3 ≤ f.end
  pub short : f.end ≤ f.start + 255
  pub within : f.end ≤ length msg
  pub alone : h_of (part_of msg f.start f.end) ≡ true → f.end ≡ f.start + 3

-- the fields of a message, each as its octets say
pub record Filled (msg : List ℕ) (ts : Targets) (base : Base) (r : Reading) : Type 0 where
  pub base_is : r.base ≡ base
  pub configuration : of_option r.configuration ≡ configuration_of (of_type configuration_type (options_of msg))
  pub discovery : r.discovery ≡ discovery_of (reply_counts (options_of msg)) (route_body (options_of msg))
  pub vector : take r.size (drop r.at msg) ≡ vector_octets (route_body (options_of msg))
  pub within : r.at + r.size ≤ length msg
  pub short : r.size ≤ 252
  pub alone : r.discovery.h ≡ true → r.size ≡ 0
  pub count : r.count ≡ ts.count
  pub targets : r.targets ≡ ts.list
