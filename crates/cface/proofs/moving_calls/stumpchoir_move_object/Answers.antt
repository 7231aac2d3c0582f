use mathlib.Core.Path.{sym}
use native.Mathlib.Omega.{arith}
use Rattle.std.proofs.lemmas.Grind.{common_steps}
use Rattle.crossing.specs.Crossing.{units_after}
use Rattle.crossing.proofs.Crossings.{given_handed, none_stored_with}
use Rattle.cface.proofs.moving_calls.stumpchoir_move_object.Goals as goal

pub returns-in-Err : goal.returns-in-Err
returns-in-Err c = rw (← c.geometry-g.ensures) (none_stored_with _ _ _ _ _ _ _ _ (sym c.in-Err.ensures) (rw c.number.ensures at c.refusal.ensures))

pub returns : goal.returns
unfolding units_after
returns c = rw (← c.geometry-g.ensures) (given_handed _ _ _ _ _ _ _ _ _ _ _ _ _ _ (sym c.in-Ok.ensures) c.fuse_of-f.ensures c.move_object-a.ensures (grind (arith, common_steps)) (grind (arith, common_steps)) (grind (arith, common_steps)))
