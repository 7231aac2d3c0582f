use mathlib.Core.Path.{refl, sym, ◌∙◌}
use Rattle.medium.proofs.Checks.{admit_stop, admit_pass}
use Rattle.writer.specs.Writer.{sound_of}
use Rattle.medium.proofs.Refusals.{not_done, passed}
use Rattle.writer.proofs.writer.ObjectWriter.sound.Goals as goal

pub returns-in_err-check : goal.returns-in_err-check
unfolding sound_of
returns-in_err-check c = rw (passed _ _ c.from_residual.ensures) (admit_stop _ _ _ _ c.in_err-check.ensures (not_done _))

pub returns-then-self : goal.returns-then-self
unfolding sound_of
returns-then-self c = sym (admit_pass _ _ _ _ c.in_ok-check.ensures refl ∙ rw c.if-self.true)

pub returns : goal.returns
unfolding sound_of
returns c = sym (admit_pass _ _ _ _ c.in_ok-check.ensures refl ∙ rw c.if-self.false (sym c.possible.ensures))
