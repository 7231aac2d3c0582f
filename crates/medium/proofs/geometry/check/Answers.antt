use mathlib.Core.Path.{sym, ◌∙◌}
use borrow.Author.Tests.{eq-eqb, ne_eqb}
use Rattle.medium.proofs.Checks.{fit_stop, fit_room}
use mathlib.Core.Path.{refl}
use Rattle.medium.proofs.Refusals.{not_done, passed}
use Rattle.medium.proofs.geometry.check.Goals as goal

pub returns-in_err-fit : goal.returns-in_err-fit
returns-in_err-fit c = rw (passed _ _ c.from_residual.ensures) (fit_stop _ _ _ c.in_err-fit.ensures (not_done _))

pub returns-then-total-room : goal.returns-then-total-room
returns-then-total-room c = sym (fit_room _ _ _ c.in_ok-fit.ensures refl ∙ rw (ne_eqb _ _ c.if-total-room.true))

pub returns : goal.returns
returns c = sym (fit_room _ _ _ c.in_ok-fit.ensures refl ∙ rw (eq-eqb _ _ c.if-total-room.false))
