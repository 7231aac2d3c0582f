use mathlib.Core.Path.{◌≡◌}
use Prim.Native.Nat.{◌-◌}
use Rattle.storage.specs.File.{places_of}
use Rattle.sweep.specs.Referring.{is_among}
use Rattle.sweep.proofs.refs.lists.Given as goal

abbrev pub invariant-loop-l : goal.invariant-loop-l
invariant-loop-l l = is_among l.at (places_of l.g l.initial.rest l.image).at ≡ is_among l.at (places_of l.g l.rest l.image).at

abbrev pub decreases-loop-l : goal.decreases-loop-l
decreases-loop-l l = l.g.size - l.rest.cursor
