use mathlib.Core.Path.{◌≡◌}
use Prim.Native.Nat.{◌≤◌, ◌-◌, ◌*◌}
use Rattle.storage.proofs.Pieces.{size_from, adding}
use Rattle.storage.proofs.file.size.Given as goal

abbrev pub invariant-loop-l : goal.invariant-loop-l
invariant-loop-l l = (l.total ≤ l.rest.cursor * 4294967295) × (size_from l.g l.image l.initial.rest ≡ adding l.g l.image l.total (size_from l.g l.image l.rest))

abbrev pub decreases-loop-l : goal.decreases-loop-l
decreases-loop-l l = l.g.size - l.rest.cursor
