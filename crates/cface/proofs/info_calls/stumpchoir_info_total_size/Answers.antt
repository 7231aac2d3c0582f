use mathlib.Core.Path.{sym}
use Rattle.crossing.proofs.Crossings.{asked_told, none_told}
use Rattle.cface.proofs.info_calls.stumpchoir_info_total_size.Goals as goal

pub returns-in-Err : goal.returns-in-Err
returns-in-Err c = rw (← c.geometry-g.ensures) (none_told _ _ _ _ _ _ (sym c.in-Err.ensures) (rw c.number.ensures at c.refusal_alone.ensures))

pub returns : goal.returns
returns c = rw (← c.geometry-g.ensures) (asked_told _ _ _ _ _ _ (sym c.in-Ok.ensures) c.total_size-a.ensures c.hand.ensures)
