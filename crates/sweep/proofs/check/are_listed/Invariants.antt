use mathlib.Core.Path.{◌≡◌}
use Prim.Native.Nat.{◌-◌}
use Rattle.storage.specs.File.{places_of}
use Rattle.sweep.specs.Lists.{every}
use Rattle.sweep.specs.Referring.{is_listed}
use Rattle.sweep.proofs.check.are_listed.Given as goal

abbrev pub invariant-loop-at : goal.invariant-loop-at
invariant-loop-at live = every (λ l. is_listed live.g l live.image) (places_of live.g live.initial.rest live.image).at ≡ every (λ l. is_listed live.g l live.image) (places_of live.g live.rest live.image).at

abbrev pub decreases-loop-at : goal.decreases-loop-at
decreases-loop-at l = l.g.size - l.rest.cursor
