use mathlib.Core.Path.{◌≡◌}
use Prim.Native.Nat.{◌≤◌, ◌-◌}
use Rattle.storage.specs.File.{places_of, gather_at, count_of}
use Rattle.storage.proofs.Pieces.{counting}
use Rattle.storage.proofs.file.measure.Given as goal

abbrev pub invariant-loop-taken : goal.invariant-loop-taken
invariant-loop-taken l = (l.taken ≤ l.n) × (count_of (gather_at l.g (places_of l.g l.initial.rest l.image) l.position l.n l.image) ≡ counting l.g l.image l.taken (gather_at l.g (places_of l.g l.rest l.image) l.skip (l.n - l.taken) l.image))

abbrev pub decreases-loop-taken : goal.decreases-loop-taken
decreases-loop-taken l = l.g.size - l.rest.cursor
