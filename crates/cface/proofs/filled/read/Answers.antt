use Rattle.crossing.proofs.Crossings.{filled_told}
use Rattle.cface.proofs.filled.read.Goals as goal

pub returns : goal.returns
returns c = filled_told c.read.result _ _ _ _ c.number.ensures c.read.ensures.buffer_after c.read.ensures.buffer_after_2
