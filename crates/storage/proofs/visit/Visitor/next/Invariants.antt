use mathlib.Core.Path.{◌≡◌}
use Rattle.storage.specs.Order.{tour_from}
use Rattle.storage.proofs.Order.{togo}
use Rattle.storage.proofs.visit.Visitor.next.Given as goal

abbrev pub invariant-loop-v : goal.invariant-loop-v
invariant-loop-v l = tour_from l.g l.t l.initial.v l.image ≡ tour_from l.g l.t l.v l.image

abbrev pub decreases-loop-v : goal.decreases-loop-v
decreases-loop-v l = togo l.g l.v
