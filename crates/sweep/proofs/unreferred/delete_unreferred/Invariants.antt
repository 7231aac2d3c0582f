use lib.ListN.{length}
use Rattle.blocks.specs.declared.header.BlockType.TheVariants.{Data}
use Rattle.storage.specs.Order.{tour_from}
use Rattle.sweep.proofs.DeletingUnreferred.{UnreferredLeft}
use Rattle.sweep.proofs.unreferred.delete_unreferred.Given as goal

abbrev pub invariant-loop-h : goal.invariant-loop-h
invariant-loop-h l = UnreferredLeft l.g l.initial.fuse l.initial.image l.twins l.words l.image l.v l.fuse l.n

abbrev pub decreases-loop-h : goal.decreases-loop-h
decreases-loop-h l = length (tour_from l.g Data l.v l.image).objects
