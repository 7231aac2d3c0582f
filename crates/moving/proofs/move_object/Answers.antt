use mathlib.Core.Path.{sym, ◌∙◌}
use Rattle.medium.proofs.Refusals.{passed}
use Rattle.medium.proofs.Runs.{on_with, stop_with, run_ask}
use Rattle.moving.specs.Moving.{move_object}
use Rattle.moving.proofs.move_object.Goals as goal

pub returns-in_err-new : goal.returns-in_err-new
unfolding move_object
returns-in_err-new c = rw (passed _ _ c.from_residual.ensures) (sym (stop_with _ _ _ _ _ _ c.copy_object.ensures c.in_err-new.was))

pub returns-in_err-f2 : goal.returns-in_err-f2
unfolding move_object
returns-in_err-f2 c = rw (passed _ _ c.from_residual-in_err-f2.ensures) (sym (on_with _ _ _ _ _ _ c.copy_object.ensures c.in_ok-new.was ∙ stop_with _ _ _ _ _ _ c.set_state.ensures c.in_err-f2.was))

pub returns : goal.returns
unfolding move_object
returns c = sym (on_with _ _ _ _ _ _ c.copy_object.ensures c.in_ok-new.was ∙ on_with _ _ _ _ _ _ c.set_state.ensures c.in_ok-f2.was ∙ run_ask _ _ _)
