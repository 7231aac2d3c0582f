use mathlib.Core.Path.{◌≡◌}
use Prim.Native.Nat.{◌-◌}
use lib.ListN.{length}
use Rattle.medium.specs.Operation.{run}
use Rattle.medium.specs.Beside.{both}
use Rattle.collector.specs.Passes.{pass}
use Rattle.collector.specs.Passes as passes
use Rattle.collector.proofs.sweep.sweep.Given as goal

abbrev pub invariant-loop-b : goal.invariant-loop-b
invariant-loop-b g l =
    let p = g.P.Pass in
    (length l.image ≡ length l.initial.image) × (length l.table ≡ length l.initial.table) × (run l.initial.fuse (pass p.step l.g) (both l.initial.image l.initial.table) ≡ run l.fuse (passes.sweep p.step (l.g.count - l.b) l.g l.b) (both l.image l.table))
