use mathlib.Core.Path.{sym, ◌∙◌}
use Rattle.medium.proofs.Refusals.{passed}
use Rattle.medium.proofs.Runs.{on, stop}
use Rattle.blocks.specs.Format.{renewing}
use Rattle.blocks.proofs.format.renew.Goals as goal

pub returns-in_err-left : goal.returns-in_err-left
unfolding renewing
returns-in_err-left c = rw (passed _ _ c.from_residual.ensures) (sym (stop _ _ _ _ _ _ tt c.args.f c.erase.ensures c.in_err-left.was))

pub returns : goal.returns
unfolding renewing
returns c = c.label.ensures ∙ sym (on _ _ _ _ _ _ tt _ c.erase.ensures c.in_ok-left.was)
