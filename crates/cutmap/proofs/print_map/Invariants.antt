-- Each turn has one more unit, the end does not go up, and the working copy stays as long as the image.
use mathlib.Core.Path.{◌≡◌}
use Prim.Native.Nat.{◌-◌, ◌≤◌}
use lib.ListN.{length}
use Rattle.cutmap.proofs.print_map.Given as goal

abbrev pub invariant-loop-fuse : goal.invariant-loop-fuse
invariant-loop-fuse l = (length l.image ≡ length l.work) × (length l.work ≡ length l.initial.work) × (l.end ≤ 65600)

abbrev pub decreases-loop-fuse : goal.decreases-loop-fuse
decreases-loop-fuse l = l.end - l.fuse
