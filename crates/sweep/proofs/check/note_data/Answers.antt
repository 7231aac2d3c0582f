use mathlib.Core.Path.{sym, ap, ◌∙◌}
use mathlib.Core.List.{List}
use lib.ListN.{length}
use Rattle.objects.specs.declared.header.ObjectHeader.{ObjectHeader}
use Rattle.blocks.specs.declared.header.BlockType.TheVariants.{Data}
use Rattle.storage.specs.Order.{tour_from}
use Rattle.sweep.specs.Notes.{note_all, places_in}
use Rattle.sweep.proofs.Walking.{rest-on, rest-less}
use Rattle.sweep.proofs.Noted.{note_length}
use Rattle.sweep.proofs.check.note_data.Goals as goal

pub loop-h-smaller : goal.loop-h-smaller
loop-h-smaller c = rest-less _ _ _ c.requires _ _ _ (rw c.in-Ok-Some.field-0-is at c.in-Ok-Some.ensures.goes)

pub loop-h-preserved : goal.loop-h-preserved
loop-h-preserved c = (
  c.loop-h.invariant.0 ∙ ap (λ (hs : List ObjectHeader). note_all c.args.g (places_in hs) c.loop-h.words) (rest-on _ _ _ c.requires _ _ _ (rw c.in-Ok-Some.field-0-is at c.in-Ok-Some.ensures.goes)) ∙ ap (note_all c.args.g (places_in (tour_from c.args.g Data c.in-Ok-Some.w c.args.image.now).objects)) (sym c.note.ensures),
  ap length c.note.ensures ∙ note_length _ _ _ ∙ c.loop-h.invariant.1,
)
