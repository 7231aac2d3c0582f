use mathlib.Core.Path.{◌≡◌}
use Prim.Native.Nat.{◌-◌}
use Rattle.medium.specs.Operation.{run}
use Rattle.blocks.specs.Format.{format_from, format_storage}
use Rattle.blocks.proofs.format.format_storage.Given as goal

abbrev pub invariant-loop-b : goal.invariant-loop-b
invariant-loop-b l = run l.initial.fuse (format_storage l.g) l.initial.image ≡ run l.fuse (format_from (l.g.count - l.b) l.g l.b) l.image
