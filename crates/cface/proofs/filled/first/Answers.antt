use mathlib.Core.Path.{sym}
use lib.Seq.{length-take-le}
use Rattle.cface.proofs.Buffers.{into_length, first_told, first_none}
use Rattle.cface.proofs.filled.first.Goals as goal

pub returns-in-Ok : goal.returns-in-Ok
returns-in-Ok c = let d = sym (rw (length-take-le _ _ c.requires, c.in-Ok.is) at c.into_bytes.ensures.buffer_after) in first_told _ _ _ _ c.args.bytes.now d (into_length _ _ _ _ d)

pub returns-in-Err : goal.returns-in-Err
returns-in-Err c = rw c.number.ensures (first_none _ c.args.n _ _ c.args.bytes.now (sym (rw (length-take-le _ _ c.requires, c.in-Err.is) at c.into_bytes.ensures.buffer_after)) (rw c.in-Err.is at c.into_bytes.ensures.buffer_after_2))
