use mathlib.Core.Path.{sym, ◌∙◌}
use Rattle.medium.proofs.Refusals.{passed}
use Rattle.objects.proofs.Tested.{heard_on, heard_stop}
use Rattle.moving.specs.Moving.{chunk}
use Rattle.moving.proofs.copy_by.Goals as goal

pub returns-in_err-beside : goal.returns-in_err-beside
unfolding chunk
returns-in_err-beside c = rw (passed _ _ c.from_residual.ensures) (sym (heard_stop _ _ _ _ _ _ c.read.ensures.buffer_after c.in_err-beside.ensures))

pub returns : goal.returns
unfolding chunk
returns c = c.try_write.ensures ∙ sym (heard_on _ _ _ _ _ _ c.read.ensures.buffer_after c.in_ok-beside.ensures)
