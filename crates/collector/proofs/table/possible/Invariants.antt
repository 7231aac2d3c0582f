use mathlib.Core.Path.{◌≡◌}
use Prim.Native.Nat.{◌-◌}
use Rattle.collector.specs.Table.{possible_from}
use Rattle.collector.proofs.table.possible.Given as goal

abbrev pub invariant-loop-b : goal.invariant-loop-b
invariant-loop-b l = possible_from l.count l.table 0 ≡ possible_from (l.count - l.b) l.table l.b
