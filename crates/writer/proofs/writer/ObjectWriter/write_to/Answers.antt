use mathlib.Core.Path.{sym, ◌∙◌}
use Rattle.medium.proofs.Refusals.{passed}
use Rattle.medium.proofs.Runs.{on_with, stop_with, run_ask}
use Rattle.writer.specs.Writer.{write_to}
use Rattle.writer.proofs.writer.ObjectWriter.write_to.Goals as goal

pub returns-in_err-w1 : goal.returns-in_err-w1
unfolding write_to
returns-in_err-w1 c = rw (passed _ _ c.from_residual.ensures) (sym (stop_with _ _ _ _ _ _ c.try_allocate.ensures c.in_err-w1.was))

pub returns-in_err-w2 : goal.returns-in_err-w2
unfolding write_to
returns-in_err-w2 c = rw (passed _ _ c.from_residual-in_err-w2.ensures) (sym (on_with _ _ _ _ _ _ c.try_allocate.ensures c.in_ok-w1.was ∙ stop_with _ _ _ _ _ _ c.try_write.ensures c.in_err-w2.was))

pub returns-in_err-w3 : goal.returns-in_err-w3
unfolding write_to
returns-in_err-w3 c = rw (passed _ _ c.from_residual-in_err-w3.ensures) (sym (on_with _ _ _ _ _ _ c.try_allocate.ensures c.in_ok-w1.was ∙ on_with _ _ _ _ _ _ c.try_write.ensures c.in_ok-w2.was ∙ stop_with _ _ _ _ _ _ c.try_finalize.ensures c.in_err-w3.was))

pub returns : goal.returns
unfolding write_to
returns c = rw c.total.ensures.value (sym (on_with _ _ _ _ _ _ c.try_allocate.ensures c.in_ok-w1.was ∙ on_with _ _ _ _ _ _ c.try_write.ensures c.in_ok-w2.was ∙ on_with _ _ _ _ _ _ c.try_finalize.ensures c.in_ok-w3.was ∙ run_ask _ _ _))
