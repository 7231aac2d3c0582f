use mathlib.Core.Path.{◌≡◌}
use Prim.Native.Nat.{◌-◌}
use Rattle.medium.specs.Granularity.{block_header}
use Rattle.blocks.specs.BlockHeader.{padded_from, padded}
use Rattle.blocks.proofs.header.is_padded.Given as goal

abbrev pub invariant-loop-i : goal.invariant-loop-i
invariant-loop-i l = padded l.k l.raw ≡ padded_from l.k l.i (block_header l.k - l.i) l.raw
