use mathlib.Core.Path.{sym, ◌∙◌}
use Rattle.medium.proofs.Refusals.{passed}
use Rattle.medium.proofs.Runs.{on, stop}
use Rattle.collector.specs.Passes.{collect}
use Rattle.collector.proofs.run.Goals as goal

pub returns-in_err-left : goal.returns-in_err-left
unfolding collect
returns-in_err-left c = rw (passed _ _ c.from_residual.ensures) (sym (stop _ _ _ _ _ _ tt c.args.f c.delete_invalid_objects.ensures c.in_err-left.was))

pub returns-in_err-rest : goal.returns-in_err-rest
unfolding collect
returns-in_err-rest c = rw (passed _ _ c.from_residual-in_err-rest.ensures) (sym (on _ _ _ _ _ _ tt _ c.delete_invalid_objects.ensures c.in_ok-left.was ∙ stop _ _ _ _ _ _ tt c.args.f c.erase_invalid_finished_blocks.ensures c.in_err-rest.was))

pub returns : goal.returns
unfolding collect
returns c = c.erase_full_finished_blocks.ensures ∙ sym (on _ _ _ _ _ _ tt _ c.delete_invalid_objects.ensures c.in_ok-left.was ∙ on _ _ _ _ _ _ tt _ c.erase_invalid_finished_blocks.ensures c.in_ok-rest.was)
