use mathlib.Core.Path.{sym}
use Rattle.crossing.proofs.Crossings.{asked_told, none_told}
use Rattle.cface.proofs.Bounds.{metadata_small}
use Rattle.cface.proofs.metadata_calls.stumpchoir_info_read_metadata.Goals as goal

pub returns-in-Err : goal.returns-in-Err
returns-in-Err c = rw (← c.geometry-g.ensures) (none_told _ _ _ _ _ _ (sym c.in-Err.ensures) (rw c.number.ensures at c.refusal.ensures))

pub hand_metadata-requires : goal.hand_metadata-requires
hand_metadata-requires c = metadata_small _ _ _ _ c.read-a.ensures

pub returns : goal.returns
returns c = rw (← c.geometry-g.ensures) (asked_told _ _ _ _ _ _ (sym c.in-Ok.ensures) c.read-a.ensures c.hand_metadata.ensures)
