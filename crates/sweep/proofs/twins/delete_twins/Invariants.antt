use mathlib.Core.Path.{◌≡◌}
use lib.ListN.{length}
use Rattle.blocks.specs.declared.header.BlockType.TheVariants.{Metadata}
use Rattle.storage.specs.Order.{tour_from}
use Rattle.sweep.proofs.DeletingTwins.{TwinsLeft}
use Rattle.sweep.proofs.twins.delete_twins.Given as goal

abbrev pub invariant-loop-h : goal.invariant-loop-h
invariant-loop-h l = TwinsLeft l.g l.initial.fuse l.initial.image l.image l.words l.v l.fuse l.n l.sure × (length l.words ≡ length l.initial.words)

abbrev pub decreases-loop-h : goal.decreases-loop-h
decreases-loop-h l = length (tour_from l.g Metadata l.v l.image).objects
