use mathlib.Core.Path.{sym, ◌∙◌}
use Rattle.medium.proofs.Refusals.{passed}
use Rattle.medium.proofs.Runs.{on_with, stop_with, run_ask}
use Rattle.writer.proofs.writer.ObjectWriter.mark.Goals as goal

pub returns-in_err-header : goal.returns-in_err-header
returns-in_err-header c = rw (passed _ _ c.from_residual.ensures) (sym (stop_with _ _ _ _ _ _ c.set_state.ensures c.in_err-header.was))

pub returns : goal.returns
returns c = rw c.with.ensures (sym (on_with _ _ _ _ _ _ c.set_state.ensures c.in_ok-header.was ∙ run_ask _ _ _))
