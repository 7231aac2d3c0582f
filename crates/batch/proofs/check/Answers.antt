use mathlib.Core.Path.{refl}
use native.Mathlib.Omega.{arith}
use Rattle.medium.proofs.Refusals.{not_done, passed}
use Rattle.batch.proofs.Turns.{batch-bad, batch-many, batch-part, batch-fits}
use Rattle.batch.proofs.check.Goals as goal

pub returns-in_err-check : goal.returns-in_err-check
returns-in_err-check c = rw (passed _ _ c.from_residual.ensures) (batch-bad _ _ _ _ c.in_err-check.ensures (not_done _))

pub returns-then-n : goal.returns-then-n
returns-then-n c = batch-many _ _ _ _ c.in_ok-check.ensures refl c.if-n.true

pub returns-then-n-ne0 : goal.returns-then-n-ne0
returns-then-n-ne0 c = batch-part _ _ _ _ c.in_ok-check.ensures refl (omega (arith, c.if-n.false)) c.if-n-ne0.true

pub returns : goal.returns
returns c = batch-fits _ _ _ _ c.in_ok-check.ensures refl (omega (arith, c.if-n.false)) c.if-n-ne0.false
