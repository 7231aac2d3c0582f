use mathlib.Core.Path.{◌≡◌}
use Prim.Native.Nat.{◌≤◌, ◌-◌}
use lib.ListN.{length}
use Rattle.storage.specs.File.{places_of, gather_at, put_into}
use Rattle.storage.specs.Pieces.{IsDone}
use Rattle.storage.proofs.Pieces.{filling}
use Rattle.storage.proofs.file.fill.Given as goal

abbrev pub invariant-loop-taken : goal.invariant-loop-taken
invariant-loop-taken l = (l.taken ≤ length l.buffer) × (length l.buffer ≡ length l.initial.buffer) × IsDone (gather_at l.g (places_of l.g l.rest l.image) l.skip (length l.buffer - l.taken) l.image) × (put_into (gather_at l.g (places_of l.g l.initial.rest l.image) l.position (length l.initial.buffer) l.image) l.initial.buffer ≡ filling l.g l.image l.taken l.buffer (gather_at l.g (places_of l.g l.rest l.image) l.skip (length l.buffer - l.taken) l.image))

abbrev pub decreases-loop-taken : goal.decreases-loop-taken
decreases-loop-taken l = l.g.size - l.rest.cursor
