use mathlib.Core.Logic.{inl, inr}
use mathlib.Core.Path.{sym}
use Rattle.medium.proofs.Refusals.{passed}
use Rattle.objects.specs.Listing.{free_place, block_end}
use Rattle.collector.proofs.Findings.{last_stopped, last_broken, last_not}
use Rattle.collector.proofs.erase_invalid_finished_block.find_last.Goals as goal

pub returns-in_err-n : goal.returns-in_err-n
returns-in_err-n c = rw (passed _ _ c.from_residual.ensures) (sym (last_broken _ _ c.requires _ _ c.in_err-n.ensures))

pub returns-in-Object : goal.returns-in-Object
returns-in-Object c = sym (last_not _ _ c.requires _ _ _ (rw c.in-Object.is at c.in_ok-n.ensures))

pub returns-in-Free : goal.returns-in-Free
returns-in-Free c = elim c.in-Free.is [
  | inl p ↦ sym (last_stopped _ _ c.requires _ free_place tt (rw p at c.in_ok-n.ensures))
  | inr p ↦ sym (last_stopped _ _ c.requires _ block_end tt (rw p at c.in_ok-n.ensures))
]
