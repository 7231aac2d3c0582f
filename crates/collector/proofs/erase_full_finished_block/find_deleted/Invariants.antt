use mathlib.Core.Path.{◌≡◌}
use Prim.Native.Nat.{◌-◌}
use Rattle.objects.specs.Listing.{listing, list_from}
use Rattle.collector.specs.Passes.{deleted_in}
use Rattle.collector.proofs.erase_full_finished_block.find_deleted.Given as goal

abbrev pub invariant-loop-h : goal.invariant-loop-h
invariant-loop-h l = deleted_in (listing l.g l.b l.image) ≡ deleted_in (list_from l.g.size l.g l.i l.image)

abbrev pub decreases-loop-h : goal.decreases-loop-h
decreases-loop-h l = l.g.size - l.i.location.offset
