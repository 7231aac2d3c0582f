use mathlib.Core.Path.{sym, ap, ◌∙◌}
use mathlib.Core.List.{List}
use lib.ListN.{length}
use Rattle.objects.specs.declared.header.ObjectHeader.{ObjectHeader}
use Rattle.blocks.specs.declared.header.BlockType.TheVariants.{Metadata}
use Rattle.storage.specs.Order.{tour_from}
use Rattle.sweep.specs.Referring.{locations_of}
use Rattle.sweep.specs.Notes.{note_all, referred_by}
use Rattle.sweep.proofs.Walking.{rest-on, rest-less}
use Rattle.sweep.proofs.Noted.{noted_length, note_append}
use Rattle.sweep.proofs.refs.note_referred.Goals as goal

pub loop-h-smaller : goal.loop-h-smaller
loop-h-smaller c = rest-less _ _ _ c.requires _ _ _ (rw c.in-Ok-Some.field-0-is at c.in-Ok-Some.ensures.goes)

pub loop-h-preserved : goal.loop-h-preserved
loop-h-preserved c = (
  c.loop-h.invariant.0 ∙ ap (λ (hs : List ObjectHeader). note_all c.args.g (referred_by c.args.g c.args.image.now hs) c.loop-h.words) (rest-on _ _ _ c.requires _ _ _ (rw c.in-Ok-Some.field-0-is at c.in-Ok-Some.ensures.goes))
      ∙ note_append c.args.g (locations_of c.args.g c.in-Ok-Some.h c.args.image.now) (referred_by c.args.g c.args.image.now (tour_from c.args.g Metadata c.in-Ok-Some.w c.args.image.now).objects) c.loop-h.words
      ∙ ap (note_all c.args.g (referred_by c.args.g c.args.image.now (tour_from c.args.g Metadata c.in-Ok-Some.w c.args.image.now).objects)) (sym c.note_object.ensures),
  ap length c.note_object.ensures ∙ noted_length c.args.g (locations_of c.args.g c.in-Ok-Some.h c.args.image.now) c.loop-h.words ∙ c.loop-h.invariant.1,
)
