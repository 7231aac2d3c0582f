use mathlib.Core.Path.{sym}
use Rattle.medium.proofs.Refusals.{passed}
use Rattle.medium.proofs.Checks.{fine_of_read}
use Rattle.blocks.specs.BlockHeader.{block_header_at}
use Rattle.blocks.proofs.header.BlockHeader.read.Goals as goal

pub returns-in_err-read : goal.returns-in_err-read
unfolding block_header_at
returns-in_err-read c = rw (passed _ _ c.from_residual.ensures, ← c.in_err-read.ensures.buffer_after)

pub from_bytes-requires : goal.from_bytes-requires
from_bytes-requires c = let h = fine_of_read _ _ _ _ _ _ (sym c.in_ok-read.ensures.buffer_after) in (h.sound.s_most, h.sound.c_most)

pub returns : goal.returns
unfolding block_header_at
returns c = rw (← c.in_ok-read.ensures.buffer_after, c.from_bytes.ensures, c.count.ensures)
