use Prim.Native.Nat.{◌-◌}
use Rattle.inspector.proofs.print_objects.Given as goal

abbrev pub decreases-loop-h : goal.decreases-loop-h
decreases-loop-h l = l.g.size - l.i.location.offset
