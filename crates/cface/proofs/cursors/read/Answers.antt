use native.Mathlib.Omega.{arith}
use Rattle.cface.proofs.Bounds.{read_fits}
use Rattle.cface.proofs.Buffers.{chunk_told, chunk_none}
use Rattle.cface.proofs.cursors.read.Goals as goal

pub put_reader-requires : goal.put_reader-requires
put_reader-requires c = omega (arith, read_fits _ _ _ _ _ c.in-Ok.ensures.result_value, c.well_formed)

pub returns-in-Ok : goal.returns-in-Ok
returns-in-Ok c = rw (c.put_reader.ensures, c.read.ensures.buffer_after) (chunk_told _ _ _ _ _ c.in-Ok.ensures.result_value)

pub returns-in-Err : goal.returns-in-Err
returns-in-Err c = rw (c.number.ensures, c.read.ensures.buffer_after) (chunk_none _ _ _ _ _ c.in-Err.ensures.result_value)
