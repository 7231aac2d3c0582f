use mathlib.Core.Path.{◌≡◌}
use Rattle.medium.specs.Medium.{onto}
use Rattle.medium.proofs.program.Given as goal

abbrev pub invariant-loop-i : goal.invariant-loop-i
invariant-loop-i l = l.part ≡ onto l.i l.src l.initial.part
