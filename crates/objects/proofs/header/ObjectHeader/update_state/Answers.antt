use Rattle.medium.proofs.Refusals.{passed}
use Rattle.objects.proofs.Reading.{no_mark, stays, stays_not}
use Rattle.objects.proofs.header.ObjectHeader.update_state.Goals as goal

pub returns-in_err-beside-in-Free : goal.returns-in_err-beside-in-Free
returns-in_err-beside-in-Free c = rw (passed _ _ c.from_residual.ensures, no_mark _ _ _ c.in-Free.is) (stays_not _ _ _ _ _ _ c.stay.ensures c.in_err-beside-in-Free.ensures)

pub returns-in_ok-beside-in-Free : goal.returns-in_ok-beside-in-Free
returns-in_ok-beside-in-Free c = rw (no_mark _ _ _ c.in-Free.is) (stays _ _ _ _ _ _ c.stay.ensures c.in_ok-beside-in-Free.ensures)
