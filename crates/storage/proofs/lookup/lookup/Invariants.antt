use mathlib.Core.Path.{◌≡◌}
use lib.ListN.{length}
use Rattle.blocks.specs.declared.header.BlockType.TheVariants.{Metadata}
use Rattle.storage.specs.Order.{tour_from}
use Rattle.storage.specs.Lookup as def
use Rattle.storage.proofs.Looking.{look_from}
use Rattle.storage.proofs.lookup.lookup.Given as goal

abbrev pub invariant-loop-h : goal.invariant-loop-h
invariant-loop-h l = def.lookup l.g l.path l.hash l.image ≡ look_from l.g l.path l.hash l.image l.v

abbrev pub decreases-loop-h : goal.decreases-loop-h
decreases-loop-h l = length (tour_from l.g Metadata l.v l.image).objects
