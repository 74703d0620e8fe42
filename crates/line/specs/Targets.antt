-- Targets, as the programs print them.
use Rattle.std.specs.Prelude.{ℕ, List, ◌++◌, flat_map, decimal, codes}
use Rattle.plain.specs.declared.Target.{Target}
use Rattle.line.specs.Hex.{hex}

-- Dest SeqNo, Prefix Length, address, after a space
unfoldable pub target_text : Target → List ℕ
target_text t = codes " " ++ (decimal t.seq ++ (codes "/" ++ (decimal t.plen ++ (codes "/" ++ hex t.addr))))

abbrev pub targets_text : List Target → List ℕ
targets_text ts = flat_map target_text ts
