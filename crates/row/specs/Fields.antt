-- The rows that have the fields of the code's structs.
use Rattle.std.specs.Prelude.{take}
use Rattle.plain.specs.Given.{RequestRow, ReplyRow}
use Rattle.lemmas.specs.Optional.{of_option}
use Rattle.row.specs.declared.RequestFields.{RequestFields}
use Rattle.row.specs.declared.ReplyFields.{ReplyFields}

-- the request row; the first `count` targets are its own
unfoldable pub request_in : RequestFields → RequestRow
request_in f = record {
  instance = f.instance;
  dodagid = f.dodagid;
  seq = f.seq;
  s = f.s;
  h = f.h;
  rank = f.rank;
  neighbour = f.neighbour;
  targets = take f.count f.targets;
  replied = f.replied;
  deadline = of_option f.deadline;
}

-- the reply row
unfoldable pub reply_in : ReplyFields → ReplyRow
reply_in f = record {
  instance = f.instance;
  dodagid = f.dodagid;
  seq = f.seq;
  rank = f.rank;
  deadline = of_option f.deadline;
}
