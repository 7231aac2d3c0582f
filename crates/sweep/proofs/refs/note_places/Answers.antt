use mathlib.Core.Path.{sym, ap, ◌∙◌}
use mathlib.Core.List.{List}
use lib.ListN.{length}
use Rattle.objects.specs.declared.location.ObjectLocation.{ObjectLocation}
use Rattle.storage.specs.File.{places_of}
use Rattle.sweep.specs.Notes.{note_all}
use Rattle.sweep.proofs.Places.{places-on, places-less}
use Rattle.sweep.proofs.Noted.{note_length}
use Rattle.sweep.proofs.refs.note_places.Goals as goal

pub loop-l-smaller : goal.loop-l-smaller
loop-l-smaller c = places-less _ _ c.requires _ _ _ (rw c.in-Ok-Some.field-0-is at c.in-Ok-Some.ensures)

pub loop-l-preserved : goal.loop-l-preserved
loop-l-preserved c = (
  c.loop-l.invariant.0 ∙ ap (λ (ls : List ObjectLocation). note_all c.args.g ls c.loop-l.words) (places-on _ _ c.requires _ _ _ (rw c.in-Ok-Some.field-0-is at c.in-Ok-Some.ensures)) ∙ ap (note_all c.args.g (places_of c.args.g c.in-Ok-Some.next c.args.image.now).at) (sym c.note.ensures),
  ap length c.note.ensures ∙ note_length _ _ _ ∙ c.loop-l.invariant.1,
)
