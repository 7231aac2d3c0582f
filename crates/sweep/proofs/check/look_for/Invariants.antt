use mathlib.Core.Path.{◌≡◌}
use lib.ListN.{length}
use Rattle.medium.specs.Geometry.{check_of}
use Rattle.blocks.specs.declared.header.BlockType.TheVariants.{Data}
use Rattle.storage.specs.Order.{tour_from}
use Rattle.sweep.specs.Lists.{some}
use Rattle.sweep.specs.Referring.{is_listed}
use Rattle.sweep.proofs.Blocks.{stands_at, Onward}
use Rattle.sweep.proofs.check.look_for.Given as goal

abbrev pub invariant-loop-h : goal.invariant-loop-h
invariant-loop-h l = (is_listed l.g l.at l.image ≡ some (stands_at l.at) (tour_from l.g Data l.v l.image).objects) × ((c : check_of l.g (length l.image) ≡ 0) → Onward l.g l.image Data c l.at (tour_from l.g Data l.v l.image).objects)

abbrev pub decreases-loop-h : goal.decreases-loop-h
decreases-loop-h l = length (tour_from l.g Data l.v l.image).objects
