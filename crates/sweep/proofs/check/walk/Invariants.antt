use mathlib.Core.Path.{◌≡◌}
use lib.ListN.{length}
use Rattle.storage.specs.Order.{tour, tour_from}
use Rattle.sweep.proofs.check.walk.Given as goal

abbrev pub invariant-loop-w : goal.invariant-loop-w
invariant-loop-w l = (tour l.g l.t l.image).end ≡ (tour_from l.g l.t l.v l.image).end

abbrev pub decreases-loop-w : goal.decreases-loop-w
decreases-loop-w l = length (tour_from l.g l.t l.v l.image).objects
