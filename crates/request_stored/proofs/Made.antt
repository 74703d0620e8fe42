-- The row that a request leaves, from its parts.
use Prim.Native.Nat.{ℕ}
use mathlib.Core.Path.{◌≡◌}
use mathlib.Core.Bool.{Bool}
use mathlib.Core.List.{[]}
use Rattle.std.specs.Prelude.{Option}
use Rattle.plain.specs.Given.{RequestRow}
use Rattle.plain.specs.Request.{kept_deadline, s_out, replies_now, request_row}
use Rattle.lemmas.specs.Optional.{of_option}
use Rattle.row.specs.Record.{request_record}
use Rattle.row.specs.Fields.{request_in}
use Rattle.message.specs.Message.{message_in, received_by, request_found}
use Rattle.message.specs.declared.Parsed.{Parsed}
use Rattle.message.specs.declared.Link.{Link}
use Rattle.request.specs.Facts.{asked_of}
use Rattle.request.specs.declared.RequestFacts.{RequestFacts}

pub request_is : (t : ℕ) (k : Link) (p : Parsed) (a : RequestFacts) (s replied : Bool) (end : Option ℕ)
    → s ≡ s_out (received_by k []) (message_in p [])
    → replied ≡ replies_now (asked_of a)
    → of_option end ≡ kept_deadline (λ (r : RequestRow). r.deadline) a.standing (request_found a.row) t p.discovery.l
    → request_record (request_in (record {
      deadline = end;
      targets = a.targets.list;
      dodagid = p.base.dodagid;
      neighbour = k.neighbour;
      rank = a.rank;
      count = a.targets.count;
      instance = p.base.instance;
      seq = p.discovery.number;
      s = s;
      h = p.discovery.h;
      replied = replied;
    }))
    ≡ request_record (request_row t (received_by k []) (message_in p []) (asked_of a))
unfolding request_row request_in message_in asked_of
request_is t k p a s replied end es er ed = rw (es, er, ed)
