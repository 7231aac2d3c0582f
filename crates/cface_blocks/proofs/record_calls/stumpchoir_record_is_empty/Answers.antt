use mathlib.Core.Path.{sym}
use Rattle.crossing.proofs.Crossings.{asked_told, none_told}
use Rattle.cface_blocks.proofs.record_calls.stumpchoir_record_is_empty.Goals as goal

pub returns-in-Err : goal.returns-in-Err
returns-in-Err c = rw (← c.geometry-g.ensures) (none_told _ _ _ _ _ _ (sym c.in-Err.ensures) (rw c.number.ensures at c.refusal_alone.ensures))

pub returns : goal.returns
returns c = rw (← c.geometry-g.ensures) (asked_told _ _ _ _ _ _ (sym c.in-Ok.ensures) c.is_empty-a.ensures c.hand.ensures)
