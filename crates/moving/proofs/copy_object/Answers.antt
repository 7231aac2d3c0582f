use mathlib.Core.Path.{sym, ◌∙◌}
use Rattle.medium.proofs.Refusals.{passed}
use Rattle.medium.proofs.Runs.{on_with, stop_with, run_ask}
use Rattle.objects.proofs.Tested.{asked_on, asked_stop}
use Rattle.moving.specs.Moving.{copy_object}
use Rattle.moving.proofs.copy_object.Goals as goal

pub returns-in_err-src : goal.returns-in_err-src
unfolding copy_object
returns-in_err-src c = rw (passed _ _ c.from_residual.ensures) (sym (asked_stop _ _ _ _ _ c.find_source.ensures.result_value c.in_err-src.ensures))

pub returns-in_err-w1 : goal.returns-in_err-w1
unfolding copy_object
returns-in_err-w1 c = rw (passed _ _ c.from_residual-in_err-w1.ensures) (sym (asked_on _ _ _ _ _ c.find_source.ensures.result_value c.in_ok-src.ensures ∙ stop_with _ _ _ _ _ _ c.try_allocate.ensures c.in_err-w1.was))

pub returns-in_err-w2 : goal.returns-in_err-w2
unfolding copy_object
returns-in_err-w2 c = rw (passed _ _ c.from_residual-in_err-w2.ensures) (sym (asked_on _ _ _ _ _ c.find_source.ensures.result_value c.in_ok-src.ensures ∙ on_with _ _ _ _ _ _ c.try_allocate.ensures c.in_ok-w1.was ∙ stop_with _ _ _ _ _ _ (rw c.at-from.ensures.value at c.copy.ensures) c.in_err-w2.was))

pub returns-in_err-w3 : goal.returns-in_err-w3
unfolding copy_object
returns-in_err-w3 c = rw (passed _ _ c.from_residual-in_err-w3.ensures) (sym (asked_on _ _ _ _ _ c.find_source.ensures.result_value c.in_ok-src.ensures ∙ on_with _ _ _ _ _ _ c.try_allocate.ensures c.in_ok-w1.was ∙ on_with _ _ _ _ _ _ (rw c.at-from.ensures.value at c.copy.ensures) c.in_ok-w2.was ∙ stop_with _ _ _ _ _ _ c.try_finalize.ensures c.in_err-w3.was))

pub returns : goal.returns
unfolding copy_object
returns c = sym (asked_on _ _ _ _ _ c.find_source.ensures.result_value c.in_ok-src.ensures ∙ on_with _ _ _ _ _ _ c.try_allocate.ensures c.in_ok-w1.was ∙ on_with _ _ _ _ _ _ (rw c.at-from.ensures.value at c.copy.ensures) c.in_ok-w2.was ∙ on_with _ _ _ _ _ _ c.try_finalize.ensures c.in_ok-w3.was ∙ run_ask _ _ _)
