use mathlib.Core.Path.{◌≡◌}
use lib.ListN.{length}
use Rattle.blocks.specs.declared.header.BlockType.TheVariants.{Metadata}
use Rattle.storage.specs.Order.{tour_from}
use Rattle.sweep.specs.Lists.{some}
use Rattle.sweep.specs.Referring.{is_among, locations_of}
use Rattle.sweep.specs.Twins.{is_referred}
use Rattle.sweep.proofs.refs.look_for.Given as goal

abbrev pub invariant-loop-h : goal.invariant-loop-h
invariant-loop-h l = is_referred l.g l.image l.at ≡ some (λ h. is_among l.at (locations_of l.g h l.image)) (tour_from l.g Metadata l.v l.image).objects

abbrev pub decreases-loop-h : goal.decreases-loop-h
decreases-loop-h l = length (tour_from l.g Metadata l.v l.image).objects
