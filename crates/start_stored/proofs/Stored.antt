-- What a start stores, from its parts.
use Rattle.std.specs.Prelude.{Option, None}
use Rattle.lemmas.specs.Optional.{of_option}
use Prim.Native.Nat.{ℕ}
use mathlib.Core.Path.{◌≡◌, ◌∙◌}
use mathlib.Core.Bool.{true, false}
use mathlib.Core.List.{List, []}
use mathlib.Core.Option.{none}
use Rattle.plain.specs.Address.{zero_address}
use Rattle.plain.specs.Given.{Settings, RequestRow, Instance}
use Rattle.plain.specs.Rank.{stepped, row_deadline}
use Rattle.plain.specs.Request.{start_row, accept_start}
use Rattle.plain.specs.declared.Target.{Target}
use Rattle.row.specs.Record.{request_record}
use Rattle.row.specs.Fields.{request_in}
use Rattle.row.specs.Change.{with_second, with_route}
use Rattle.targets.specs.declared.Targets.{Targets}
use Rattle.kept.specs.Kept.{list_of}
use Rattle.decision.specs.Decision.{Stores, instances_by, record_of, routes_by}
use Rattle.decision.specs.declared.Decided.{Decided}
use Rattle.decision.proofs.Laws.{meant, again}
use Rattle.start.specs.Start.{start_of}
use Rattle.start.specs.declared.Asking.{Asking}

-- its row
pub row_is : (x : Settings) (t own : ℕ) (s : Asking) (ts : Targets) (end : Option ℕ) → of_option end ≡ row_deadline t s.l
    → request_record (request_in (record {
      deadline = end;
      targets = ts.list;
      dodagid = x.receiving;
      neighbour = zero_address;
      rank = 256;
      count = ts.count;
      instance = s.instance;
      seq = own;
      s = true;
      h = s.h;
      replied = false;
    }))
    ≡ request_record (start_row x t own (start_of s []) (list_of ts))
unfolding start_row request_in
row_is x t own s ts end e = rw e

-- what is stored, with our stepped number
pub stored_is : (x : Settings) (own next t : ℕ) (s : Asking) (ts : Targets) (r : Decided) → next ≡ stepped own
    → r.row ≡ request_record (start_row x t next (start_of s []) (list_of ts))
    → r.second ≡ None
    → r.route ≡ None
    → r.seq ≡ next
    → (targets : List Target)
    → Stores {B = RequestRow} (accept_start x own t (start_of s targets) (list_of ts)) none none r
unfolding accept_start start_row instances_by routes_by with_second with_route record_of
stored_is x own next t s ts r en er ep ed eq targets = record {
  own = eq ∙ en;
  instances = rw (er, ep, meant (Instance.request (start_row x t next (start_of s []) (list_of ts))), en);
  routes = rw ed;
  row = rw er (again (Instance.request (start_row x t next (start_of s []) (list_of ts))));
  route = rw ed tt;
}
