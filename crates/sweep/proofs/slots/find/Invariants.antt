use mathlib.Core.Path.{◌≡◌}
use Prim.Native.Nat.{◌-◌, ◌≤◌}
use Rattle.sweep.specs.Slots.{find_from, find}
use Rattle.sweep.proofs.slots.find.Given as goal

abbrev pub invariant-loop-i : goal.invariant-loop-i
invariant-loop-i l = (find l.words l.key ≡ find_from (l.slots - l.i) l.words l.i l.key) × (l.i ≤ l.slots)

abbrev pub decreases-loop-i : goal.decreases-loop-i
decreases-loop-i l = l.slots - l.i
