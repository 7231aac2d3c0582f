use mathlib.Core.Path.{sym, ◌∙◌}
use Rattle.medium.proofs.Refusals.{passed}
use Rattle.medium.proofs.Runs.{on, stop, run_ask}
use Rattle.objects.proofs.Tested.{asked_on, asked_stop}
use Rattle.writer.specs.Writer.{allocate}
use Rattle.writer.proofs.writer.ObjectWriter.try_allocate.Goals as goal

pub returns-in_err-state : goal.returns-in_err-state
unfolding allocate
returns-in_err-state c = rw (passed _ _ c.from_residual.ensures) (sym (asked_stop _ _ _ _ _ c.read.ensures c.in_err-state.ensures))

pub returns-in_err-beside : goal.returns-in_err-beside
unfolding allocate
returns-in_err-beside c = rw (passed _ _ c.from_residual-in_err-beside.ensures) (sym (asked_on _ _ _ _ _ c.read.ensures c.in_ok-state.ensures ∙ asked_stop _ _ _ _ _ c.allocatable.ensures c.in_err-beside.ensures))

pub returns-in_err-fuse : goal.returns-in_err-fuse
unfolding allocate
returns-in_err-fuse c = rw (passed _ _ c.from_residual-in_err-fuse.ensures) (sym (asked_on _ _ _ _ _ c.read.ensures c.in_ok-state.ensures ∙ asked_on _ _ _ _ _ c.allocatable.ensures c.in_ok-beside.ensures ∙ stop _ _ _ _ _ _ tt c.args.f (rw c.from.ensures at c.write.ensures) c.in_err-fuse.was))

pub returns : goal.returns
unfolding allocate
returns c = rw c.fresh.ensures (sym (asked_on _ _ _ _ _ c.read.ensures c.in_ok-state.ensures ∙ asked_on _ _ _ _ _ c.allocatable.ensures c.in_ok-beside.ensures ∙ on _ _ _ _ _ _ tt _ (rw c.from.ensures at c.write.ensures) c.in_ok-fuse.was ∙ run_ask _ _ _))
