use mathlib.Core.Path.{sym, ◌∙◌}
use borrow.Author.Tests.{le-ltb, lt-ltb}
use Rattle.medium.specs.Medium.{erasable}
use Rattle.medium.proofs.Checks.{admit_pass, admit_stop}
use mathlib.Core.Path.{refl}
use Rattle.medium.proofs.Refusals.{not_done, passed}
use Rattle.medium.proofs.may_erase.Goals as goal

pub returns-in_err-check : goal.returns-in_err-check
unfolding erasable
returns-in_err-check c = rw (passed _ _ c.from_residual.ensures) (admit_stop _ _ _ _ c.in_err-check.ensures (not_done _))

pub returns-then-g-block : goal.returns-then-g-block
unfolding erasable
returns-then-g-block c = sym (admit_pass _ _ _ _ c.in_ok-check.ensures refl ∙ simp (le-ltb _ _ c.if-g-block.true))

pub returns : goal.returns
unfolding erasable
returns c = sym (admit_pass _ _ _ _ c.in_ok-check.ensures refl ∙ simp (lt-ltb _ _ c.if-g-block.false))
