use Rattle.crossing.proofs.Crossings.{stored}
use Rattle.cface_batch.proofs.batch_calls.stumpchoir_write_all.Goals as goal

pub returns : goal.returns
returns c = rw (← c.geometry-g.ensures, ← c.fuse_of-f.ensures, c.hand_back.ensures.done_after) (stored _ _ _ _ _ _ _ c.write_all-a.ensures c.hand_back.ensures.value c.hand_back.ensures.units_after)
