use mathlib.Core.Path.{◌≡◌}
use lib.ListN.{length}
use Rattle.blocks.specs.declared.header.BlockType.TheVariants.{Metadata}
use Rattle.storage.specs.Order.{tour_from}
use Rattle.sweep.specs.Lists.{every}
use Rattle.sweep.specs.Referring.{metadata_in, is_sound}
use Rattle.sweep.proofs.check.are_sound.Given as goal

abbrev pub invariant-loop-h : goal.invariant-loop-h
invariant-loop-h l = every (λ h. is_sound l.g h l.image) (metadata_in l.g l.image) ≡ every (λ h. is_sound l.g h l.image) (tour_from l.g Metadata l.v l.image).objects

abbrev pub decreases-loop-h : goal.decreases-loop-h
decreases-loop-h l = length (tour_from l.g Metadata l.v l.image).objects
