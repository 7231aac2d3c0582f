use mathlib.Core.Path.{refl, sym}
use Rattle.medium.proofs.Refusals.{not_done, passed}
use Rattle.blocks.proofs.Formats.{data_refused, data_lent}
use Rattle.blocks.proofs.format.is_block_data_empty.Goals as goal

pub returns-in_err-reach : goal.returns-in_err-reach
returns-in_err-reach c = rw (passed _ _ c.from_residual.ensures) (sym (data_refused _ _ _ _ _ _ c.block_header-at.ensures c.data_length-n.ensures c.in_err-reach.ensures (not_done _)))

pub returns : goal.returns
returns c = sym (data_lent _ _ _ _ _ _ c.block_header-at.ensures c.data_length-n.ensures c.in_ok-reach.ensures _ _ c.lend.ensures c.is_erased.ensures refl)
