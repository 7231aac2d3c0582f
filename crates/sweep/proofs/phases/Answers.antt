use mathlib.Core.Path.{sym, ◌∙◌}
use mathlib.Core.List.{[], ◌∷◌}
use Rattle.sweep.proofs.Turns.{sweep_stop, twins-done, twins-cut, sweepable_fine, twins_fine}
use Rattle.sweep.proofs.Ready.{ready_of}
use Rattle.sweep.proofs.phases.Goals as goal

pub returns-in-Err : goal.returns-in-Err
returns-in-Err c = rw c.stopped.ensures (sym (sweep_stop _ _ _ _ _ (sym c.in-Err.ensures)))

pub delete_twins-t-requires : goal.delete_twins-t-requires
delete_twins-t-requires c = let r = ready_of _ _ (λ j. (c.slice_known-1.given j).fits) (sym c.in_default.ensures) in record { image_value = r.fine; image_value_2 = r.metadata_end }

pub returns-in_default-answer : goal.returns-in_default-answer
returns-in_default-answer c = rw c.in_default-answer.is (sym (twins-cut _ _ _ _ (sym c.in_default.ensures) _ _ _ c.delete_twins-t.ensures.unreferred_after c.in_default-answer.is))

pub delete_unreferred-requires : goal.delete_unreferred-requires
delete_unreferred-requires c = twins_fine _ _ _ _ c.delete_twins-t.result.answer _ (c.delete_twins-t.result.twins ∷ c.delete_twins-t.result.unreferred ∷ []) c.delete_twins-t.ensures.unreferred_after (sweepable_fine _ _ (sym c.in_default.ensures))

pub returns : goal.returns
returns c = c.delete_unreferred.ensures ∙ sym (twins-done _ _ _ _ (sym c.in_default.ensures) _ _ _ (rw c.delete_twins-t.ensures.unreferred_value at c.delete_twins-t.ensures.unreferred_after) c.in-Ok.is)
