use mathlib.Core.Path.{◌≡◌}
use mathlib.Core.Bool.{false}
use Prim.Native.Nat.{◌-◌}
use Rattle.objects.specs.Listing.{listing, list_from}
use Rattle.blocks.specs.Scan.{listed}
use Rattle.blocks.proofs.scan.list.Given as goal

abbrev pub invariant-loop-o : goal.invariant-loop-o
invariant-loop-o l = listed l.h false (listing l.g l.block l.image) ≡ listed l.h l.allocated (list_from l.g.size l.g l.i l.image)

abbrev pub decreases-loop-o : goal.decreases-loop-o
decreases-loop-o l = l.g.size - l.i.location.offset
