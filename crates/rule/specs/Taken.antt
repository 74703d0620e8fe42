-- What holds where neither 1 nor 2 to 6 is answered: what a heard request or reply is taken with.
use Rattle.std.specs.Prelude.{ℕ, ◌≤◌, ◌^◌, ◌≡◌, true, List, map, length}
use Rattle.plain.specs.Answers.{good_instance, all_good}
use Rattle.row.specs.Meaning.{instance_of}
use Rattle.row.specs.declared.InstanceRow.{InstanceRow}
use Rattle.message.specs.declared.Parsed.{Parsed}
use Rattle.rule.specs.Heard.{Heard}

pub record Taken (clock t : ℕ) (rows : List InstanceRow) (forward reply : List ℕ) (p : Parsed) : Type 0 where
  pub later : clock ≤ t
  pub time : t ≤ 2 ^ 40
  pub good : all_good good_instance (map instance_of rows) ≡ true
  pub forward_room : 1236 ≤ length forward
  pub reply_room : 1236 ≤ length reply
  pub heard : Heard p
