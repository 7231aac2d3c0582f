use mathlib.Core.Path.{sym, ◌∙◌}
use native.Mathlib.Omega.{arith}
use borrow.Author.Rules.{rules}
use Rattle.medium.proofs.Refusals.{passed}
use Rattle.medium.proofs.Runs.{on_with, stop_with}
use Rattle.moving.proofs.Turns.{turn_length, copy_step, copy_end}
use Rattle.moving.proofs.copy.Goals as goal

pub returns-in_err-next : goal.returns-in_err-next
returns-in_err-next c = rw (passed _ _ c.from_residual.ensures) (sym (c.loop-i.invariant.rest ∙ copy_step _ _ _ _ _ _ _ _ _ (omega arith) ∙ stop_with _ _ _ _ _ _ (rw (c.min-m.ensures, turn_length) at c.copy_some.ensures) c.in_err-next.was))

pub loop-i-preserved : goal.loop-i-preserved
loop-i-preserved c = record { room = search rules; rest = c.loop-i.invariant.rest ∙ copy_step _ _ _ _ _ _ _ _ _ (omega arith) ∙ on_with _ _ _ _ _ _ (rw (c.min-m.ensures, turn_length) at c.copy_some.ensures) c.in_ok-next.was }

pub returns : goal.returns
returns c = sym (c.loop-i.invariant.rest ∙ copy_end _ _ _ _ _ _ _ _ _ (omega arith))
