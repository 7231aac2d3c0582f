use mathlib.Core.Path.{sym}
use Rattle.crossing.proofs.Crossings.{asked_told, none_told}
use Rattle.cface.proofs.Bounds.{next_small}
use Rattle.cface.proofs.metadata_calls.stumpchoir_metadata_next_object_location.Goals as goal

pub returns-in-Err : goal.returns-in-Err
returns-in-Err c = rw (← c.geometry-g.ensures) (none_told _ _ _ _ _ _ (sym c.in-Err.ensures) (rw c.number.ensures at c.refusal.ensures))

pub hand_next-requires : goal.hand_next-requires
hand_next-requires c = next_small _ _ _ _ c.next_object_location-a.ensures

pub returns : goal.returns
returns c = rw (← c.geometry-g.ensures) (asked_told _ _ _ _ _ _ (sym c.in-Ok.ensures) c.next_object_location-a.ensures c.hand_next.ensures)
