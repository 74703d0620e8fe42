use Rattle.search.specs.Seen.{request_seen}
use Rattle.search.proofs.Laws.{request_ask, told}
use Rattle.search.proofs.has_request.Goals as goal

pub returns : goal.returns
unfolding request_seen
returns c = rw c.is_some.ensures (told (request_ask c.args.t c.args.instance c.args.dodagid) _ c.find_request.ensures)
