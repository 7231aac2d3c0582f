use mathlib.Core.Path.{sym}
use Rattle.crossing.proofs.Crossings.{given_handed, none_stored_with}
use Rattle.cface.proofs.moving_calls.stumpchoir_write_to.Goals as goal

pub returns-in-Err : goal.returns-in-Err
returns-in-Err c = rw (← c.geometry-g.ensures) (none_stored_with _ _ _ _ _ _ _ _ (sym c.in-Err.ensures) (rw c.number.ensures at c.refusal.ensures))

pub returns : goal.returns
returns c = rw (← c.geometry-g.ensures) (given_handed _ _ _ _ _ _ _ _ _ _ _ _ _ _ (sym c.in-Ok.ensures) c.fuse_of-f.ensures c.write_to-a.ensures c.hand_total.ensures.value c.hand_total.ensures.units_after c.hand_total.ensures.total_after)
