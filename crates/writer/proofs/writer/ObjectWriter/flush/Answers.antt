use mathlib.Core.Path.{sym, ◌∙◌}
use native.Mathlib.Omega.{arith}
use borrow.Author.Tests.{eq-eqb, ne_eqb}
use Rattle.medium.proofs.Refusals.{passed}
use Rattle.medium.proofs.Runs.{on, stop, run_ask}
use Rattle.writer.specs.Writer.{flush}
use Rattle.writer.proofs.writer.ObjectWriter.flush.Goals as goal

pub returns-then-n-eq0 : goal.returns-then-n-eq0
unfolding flush
returns-then-n-eq0 c = rw (eq-eqb _ _ c.if-n-eq0.true, c.emptied.ensures) (record { image_after = sym (run_ask _ _ _); cursor_bound = omega (arith, c.requires) })

pub returns-in_err-fuse : goal.returns-in_err-fuse
unfolding flush
returns-in_err-fuse c = rw (passed _ _ c.from_residual.ensures) (record { image_after = rw (ne_eqb _ _ c.if-n-eq0.false) (sym (stop _ _ _ _ _ _ tt c.args.f (rw c.data_at.ensures.value at c.write.ensures) c.in_err-fuse.was)); cursor_bound = tt })

pub returns : goal.returns
unfolding flush
returns c = record { image_after = rw (ne_eqb _ _ c.if-n-eq0.false, c.emptied-2.ensures) (sym (on _ _ _ _ _ _ tt _ (rw c.data_at.ensures.value at c.write.ensures) c.in_ok-fuse.was ∙ run_ask _ _ _)); cursor_bound = rw c.emptied-2.ensures (omega (arith, c.requires)) }
