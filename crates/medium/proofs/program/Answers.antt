-- `medium::program` meets its contract. After i turns the part has its first i bytes programmed.
use Prim.Native.Nat.{◌<◌}
use native.Mathlib.Omega.{arith}
use lib.ListN.{length}
use Rattle.medium.proofs.Stores.{onto_more}
use Rattle.medium.proofs.program.Goals as goal

pub loop-i-preserved : goal.loop-i-preserved
loop-i-preserved c =
    let h : c.loop-i.i < length c.args.part.now = omega arith in
    onto_more _ _ _ _ _ h c.loop-i.invariant c.padded-b.ensures
