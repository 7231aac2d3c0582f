use mathlib.Core.Path.{◌≡◌}
use lib.ListN.{length}
use Rattle.blocks.specs.declared.header.BlockType.TheVariants.{Metadata}
use Rattle.storage.specs.Order.{start_visit, tour_from}
use Rattle.sweep.specs.Lists.{some}
use Rattle.sweep.specs.Twins.{is_twin, before}
use Rattle.sweep.proofs.twins.has_earlier.Given as goal

abbrev pub invariant-loop-e : goal.invariant-loop-e
invariant-loop-e l = some (is_twin l.g l.image l.h) (before l.h.location (tour_from l.g Metadata (start_visit l.g l.block) l.image).objects) ≡ some (is_twin l.g l.image l.h) (before l.h.location (tour_from l.g Metadata l.v l.image).objects)

abbrev pub decreases-loop-e : goal.decreases-loop-e
decreases-loop-e l = length (tour_from l.g Metadata l.v l.image).objects
