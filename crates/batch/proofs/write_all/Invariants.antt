use mathlib.Core.Path.{◌≡◌}
use mathlib.Core.List.{[], ◌∷◌}
use lib.ListN.{drop}
use Rattle.medium.specs.Operation.{run}
use Rattle.medium.specs.Beside.{both}
use Rattle.batch.specs.Batch.{records_in, writing, write_all}
use Rattle.batch.proofs.write_all.Given as goal

abbrev pub invariant-loop-i : goal.invariant-loop-i
invariant-loop-i l = run l.initial.fuse (write_all l.g l.block l.records l.payload) (both l.initial.image (0 ∷ [])) ≡ run l.fuse (writing l.g l.block l.payload l.i (drop l.i (records_in l.records))) (both l.image (l.i ∷ []))
