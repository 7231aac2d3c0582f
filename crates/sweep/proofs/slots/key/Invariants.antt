use mathlib.Core.Path.{◌≡◌}
use Prim.Native.Nat.{◌<◌}
use lib.ListN.{drop}
use Rattle.sweep.specs.Slots.{key_from, key_of}
use Rattle.sweep.proofs.slots.key.Given as goal

abbrev pub invariant-loop-b : goal.invariant-loop-b
invariant-loop-b l = (key_of l.bytes ≡ key_from l.n (drop l.b-index l.bytes)) × (l.n < 4294967296)
