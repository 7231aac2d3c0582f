use mathlib.Core.Path.{sym, ◌∙◌}
use Rattle.medium.proofs.Refusals.{passed}
use Rattle.medium.proofs.Runs.{on_with, stop_with}
use Rattle.writer.specs.Writer.{close}
use Rattle.writer.proofs.writer.ObjectWriter.close.Goals as goal

pub returns-in_err-w : goal.returns-in_err-w
unfolding close
returns-in_err-w c = rw (passed _ _ c.from_residual.ensures) (sym (stop_with _ _ _ _ _ _ c.flush.ensures.image_after c.in_err-w.was))

pub returns-in_err-sized : goal.returns-in_err-sized
unfolding close
returns-in_err-sized c = rw (passed _ _ c.from_residual-in_err-sized.ensures) (sym (on_with _ _ _ _ _ _ c.flush.ensures.image_after c.in_ok-w.was ∙ stop_with _ _ _ _ _ _ c.set_payload_size.ensures c.in_err-sized.was))

pub returns : goal.returns
unfolding close
returns c = (rw c.with.ensures at c.mark.ensures) ∙ sym (on_with _ _ _ _ _ _ c.flush.ensures.image_after c.in_ok-w.was ∙ on_with _ _ _ _ _ _ c.set_payload_size.ensures c.in_ok-sized.was)
