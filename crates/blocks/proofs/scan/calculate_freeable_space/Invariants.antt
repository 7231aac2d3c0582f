use mathlib.Core.Path.{◌≡◌}
use Prim.Native.Nat.{◌≤◌, ◌-◌}
use Rattle.objects.specs.Listing.{list_from}
use Rattle.blocks.specs.Scan.{freeable, calculate_freeable_space}
use Rattle.blocks.proofs.scan.calculate_freeable_space.Given as goal

abbrev pub invariant-loop-o : goal.invariant-loop-o
invariant-loop-o l = (l.deleted ≤ l.i.location.offset) × (l.i.location.offset ≤ 4294967295) × (calculate_freeable_space l.g l.block l.image ≡ freeable l.g l.deleted (list_from l.g.size l.g l.i l.image))

abbrev pub decreases-loop-o : goal.decreases-loop-o
decreases-loop-o l = l.g.size - l.i.location.offset
