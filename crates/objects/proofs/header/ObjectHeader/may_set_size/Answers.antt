use mathlib.Core.Path.{refl, sym, ◌∙◌}
use borrow.Author.Tests.{ne_eqb}
use Rattle.medium.proofs.Checks.{admit_pass, admit_stop}
use Rattle.medium.proofs.Refusals.{not_done, passed}
use Rattle.objects.specs.Header.{sizable_of}
use Rattle.objects.proofs.header.ObjectHeader.may_set_size.Goals as goal

pub returns-in_err-check : goal.returns-in_err-check
unfolding sizable_of
returns-in_err-check c = rw (passed _ _ c.from_residual.ensures) (admit_stop _ _ _ _ c.in_err-check.ensures (not_done _))

pub returns-then-self-unset : goal.returns-then-self-unset
unfolding sizable_of
returns-then-self-unset c = sym (admit_pass _ _ _ _ c.in_ok-check.ensures refl ∙ rw (← c.unset.ensures, ne_eqb _ _ c.if-self-unset.true))
