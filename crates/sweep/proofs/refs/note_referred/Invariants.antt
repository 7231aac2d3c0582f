use mathlib.Core.Path.{◌≡◌}
use lib.ListN.{length}
use Rattle.blocks.specs.declared.header.BlockType.TheVariants.{Metadata}
use Rattle.storage.specs.Order.{tour_from}
use Rattle.sweep.specs.Notes.{note_all, noted, referred_by, referred_in}
use Rattle.sweep.proofs.refs.note_referred.Given as goal

abbrev pub invariant-loop-h : goal.invariant-loop-h
invariant-loop-h l = (noted l.g (referred_in l.g l.image) (length l.initial.words) ≡ note_all l.g (referred_by l.g l.image (tour_from l.g Metadata l.v l.image).objects) l.words) × (length l.words ≡ length l.initial.words)

abbrev pub decreases-loop-h : goal.decreases-loop-h
decreases-loop-h l = length (tour_from l.g Metadata l.v l.image).objects
