use mathlib.Core.Path.{◌≡◌}
use lib.ListN.{length}
use Rattle.blocks.specs.declared.header.BlockType.TheVariants.{Data}
use Rattle.storage.specs.Order.{tour_from}
use Rattle.sweep.specs.Referring.{data_in}
use Rattle.sweep.specs.Notes.{note_all, noted, places_in}
use Rattle.sweep.proofs.check.note_data.Given as goal

abbrev pub invariant-loop-h : goal.invariant-loop-h
invariant-loop-h l = (noted l.g (places_in (data_in l.g l.image)) (length l.initial.words) ≡ note_all l.g (places_in (tour_from l.g Data l.v l.image).objects) l.words) × (length l.words ≡ length l.initial.words)

abbrev pub decreases-loop-h : goal.decreases-loop-h
decreases-loop-h l = length (tour_from l.g Data l.v l.image).objects
