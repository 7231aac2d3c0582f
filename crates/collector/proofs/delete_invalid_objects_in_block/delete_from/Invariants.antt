use mathlib.Core.Path.{◌≡◌}
use Prim.Native.Nat.{◌-◌}
use lib.ListN.{length}
use Rattle.medium.specs.Operation.{run}
use Rattle.medium.specs.Beside.{both}
use Rattle.objects.specs.Listing.{start_of}
use Rattle.collector.specs.Passes.{deleting}
use Rattle.collector.proofs.Repairs.{Left}
use Rattle.collector.proofs.delete_invalid_objects_in_block.delete_from.Given as goal

abbrev pub invariant-loop-h : goal.invariant-loop-h
invariant-loop-h l =
    (length l.image ≡ length l.initial.image) × (length l.table ≡ length l.initial.table) × Left l.g l.b l.used (run l.initial.fuse (deleting l.g.size l.g l.b l.used (start_of l.g l.b)) (both l.initial.image l.initial.table)) l.i l.fuse (both l.image l.table)

abbrev pub decreases-loop-h : goal.decreases-loop-h
decreases-loop-h l = l.g.size - l.i.location.offset
