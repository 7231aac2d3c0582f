use mathlib.Core.Path.{sym, ◌∙◌}
use Rattle.medium.proofs.Refusals.{passed}
use Rattle.medium.proofs.Runs.{on_with, stop_with, run_ask}
use Rattle.collector.proofs.delete_invalid_objects_in_block.delete_object.Goals as goal

pub returns-in_err-left : goal.returns-in_err-left
returns-in_err-left c = rw (passed _ _ c.from_residual.ensures) (sym (stop_with _ _ _ _ _ _ c.update_state.ensures c.in_err-left.was))

pub returns : goal.returns
returns c = sym (on_with _ _ _ _ _ _ c.update_state.ensures c.in_ok-left.was ∙ run_ask _ _ _)
