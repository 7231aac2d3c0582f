-- `header::is_padded` meets its contract. Of the bytes before i none is wrong; what is left decides.
use mathlib.Core.Path.{◌≡◌, ◌∙◌}
use Prim.Native.Nat.{◌-◌, ◌<◌}
use native.Mathlib.Omega.{arith}
use Rattle.medium.specs.Granularity.{block_header}
use Rattle.blocks.specs.BlockHeader.{padded}
use Rattle.blocks.proofs.Headers.{padded_named, padded-blank}
use Rattle.blocks.proofs.header.is_padded.Goals as goal
use Rattle.blocks.proofs.header.is_padded.Goals.{else-not-is_named-via-then-not-is_named+else-raw-i, else-not-is_named-via-else-not-is_named}

pub loop-i-init : goal.loop-i-init
unfolding padded
loop-i-init c = let e : block_header c.args.k - 0 ≡ block_header c.args.k = omega arith in rw e

pub loop-i-preserved : goal.loop-i-preserved
loop-i-preserved c =
    let lt : c.loop-i.i < block_header c.args.k = omega (arith, c.block_header-i-end.ensures) in
    elim c.else-not-is_named.branch [
      | else-not-is_named-via-then-not-is_named+else-raw-i w ↦ c.loop-i.invariant ∙ padded-blank _ _ _ _ lt _ c.is_named.ensures w.if-not-is_named.true w.if-raw-i.false
      | else-not-is_named-via-else-not-is_named w ↦ c.loop-i.invariant ∙ padded_named _ _ _ _ lt _ c.is_named.ensures w.if-not-is_named.false
    ]
