use Rattle.crossing.proofs.Crossings.{stored}
use Rattle.cface_sweep.proofs.sweep_calls.stumpchoir_sweep.Goals as goal

pub returns : goal.returns
returns c = rw (← c.geometry-g.ensures, ← c.fuse_of-f.ensures, c.hand_back.ensures.twins_after, c.hand_back.ensures.unreferred_after) (stored _ _ _ _ _ _ _ c.sweep-a.ensures c.hand_back.ensures.value c.hand_back.ensures.units_after)
