-- What a host hands in: what its records mean.
use Rattle.row.specs.Meaning.{flag}
use Rattle.message.specs.declared.Link.{Link}
use Rattle.start.specs.declared.Asking.{Asking}
use Rattle.handed.specs.declared.HostLink.{HostLink}
use Rattle.handed.specs.declared.HostStart.{HostStart}

-- "link facts: the neighbour's address; whether the link is good upward and downward ..; the rank increase; and whether it came to the
-- group or to us alone"
abbrev pub link_of : HostLink → Link
link_of k = record {
  neighbour = k.neighbour;
  upward = flag k.upward;
  downward = flag k.downward;
  increase = k.increase;
  group = flag k.group;
}

-- "A start brings RPLInstanceID, H, Compr, L, RankLimit and targets": all but the targets
abbrev pub asking_of : HostStart → Asking
asking_of s = record { instance = s.instance; h = flag s.h; compr = s.compr; l = s.l; limit = s.limit }
