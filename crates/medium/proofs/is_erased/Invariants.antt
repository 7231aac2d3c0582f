use mathlib.Core.Path.{◌≡◌}
use lib.ListN.{drop}
use Rattle.medium.specs.Strict.{all_ff}
use Rattle.medium.proofs.is_erased.Given as goal

abbrev pub invariant-loop-byte : goal.invariant-loop-byte
invariant-loop-byte l = all_ff l.part ≡ all_ff (drop l.byte-index l.part)
