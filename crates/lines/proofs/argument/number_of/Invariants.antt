use mathlib.Core.Path.{◌≡◌}
use lib.ListN.{drop}
use Rattle.lines.specs.Argument.{number_from, number_of}
use Rattle.lines.proofs.argument.number_of.Given as goal

abbrev pub invariant-loop-b : goal.invariant-loop-b
invariant-loop-b l = number_of l.text ≡ number_from l.n (drop l.b-index l.text)
