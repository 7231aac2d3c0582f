use mathlib.Core.Path.{◌≡◌}
use Prim.Native.Nat.{◌-◌}
use lib.ListN.{length}
use Rattle.storage.specs.File.{places_of}
use Rattle.sweep.specs.Notes.{note_all}
use Rattle.sweep.proofs.refs.note_places.Given as goal

abbrev pub invariant-loop-l : goal.invariant-loop-l
invariant-loop-l l = (note_all l.g (places_of l.g l.initial.rest l.image).at l.initial.words ≡ note_all l.g (places_of l.g l.rest l.image).at l.words) × (length l.words ≡ length l.initial.words)

abbrev pub decreases-loop-l : goal.decreases-loop-l
decreases-loop-l l = l.g.size - l.rest.cursor
