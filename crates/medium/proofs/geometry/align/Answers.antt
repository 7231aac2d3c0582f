use borrow.Author.Tests.{ne_eqb}
use Rattle.medium.specs.Medium.{aligned_of}
use Rattle.medium.proofs.Refusals.{not_done, passed}
use Rattle.medium.proofs.geometry.align.Goals as goal

pub returns-in_err-fit : goal.returns-in_err-fit
unfolding aligned_of
returns-in_err-fit c = rw (passed _ _ c.from_residual.ensures, ← c.in_err-fit.ensures, ne_eqb _ _ (not_done c.in_err-fit.field-0.0))

pub returns : goal.returns
unfolding aligned_of
returns c = rw (← c.in_ok-fit.ensures, c.align.ensures)
