use native.Mathlib.Omega.{arith}
use Rattle.std.proofs.lemmas.Grind.{common_steps}
use Rattle.crossing.specs.Crossing.{units_after}
use Rattle.crossing.proofs.Crossings.{stored}
use Rattle.cface.proofs.medium_calls.stumpchoir_erase.Goals as goal

pub returns : goal.returns
unfolding units_after
returns c = rw (← c.geometry-g.ensures, ← c.fuse_of-f.ensures) (stored _ _ _ _ _ _ _ c.erase-a.ensures (grind (arith, common_steps)) (grind (arith, common_steps)))
