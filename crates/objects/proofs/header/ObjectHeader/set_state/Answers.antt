use mathlib.Core.Path.{sym, ap, ◌∙◌}
use borrow.Author.Tests.{eq-eqb, ne_eqb, lt-ltb, le-ltb}
use Rattle.medium.proofs.Refusals.{passed}
use Rattle.medium.proofs.Runs.{run_ask, on, stop}
use Rattle.medium.specs.Operation.{run}
use Rattle.objects.specs.Header.{step_to, set_state, marking}
use Rattle.objects.proofs.Tested.{tested_stop, tested_on}
use Rattle.objects.proofs.header.ObjectHeader.set_state.Goals as goal

pub returns-in_err-beside : goal.returns-in_err-beside
unfolding set_state
returns-in_err-beside c = rw (passed _ _ c.from_residual.ensures) (sym (tested_stop _ _ _ _ _ c.check.ensures c.in_err-beside.ensures))

pub returns-in_default : goal.returns-in_default
unfolding set_state
returns-in_default c = rw c.beside-in_default.ensures (sym (tested_on _ _ _ _ _ c.check.ensures c.in_ok-beside.ensures ∙ rw c.in_default.is (run_ask _ _ _)))

pub returns-then-from-ahead : goal.returns-then-from-ahead
unfolding set_state
returns-then-from-ahead c = sym (tested_on _ _ _ _ _ c.check.ensures c.in_ok-beside.ensures ∙ (ap (λ s. run c.args.f (step_to c.args.g c.args.self c.args.to s) c.args.image.now) c.in-Allocated.is ∙ rw (← c.rank-from.ensures, ← c.rank-ahead.ensures, eq-eqb _ _ c.if-from-ahead.true) (run_ask _ _ _)))

pub returns-then-ahead-from : goal.returns-then-ahead-from
unfolding set_state
returns-then-ahead-from c = rw c.beside-then-ahead-from.ensures (sym (tested_on _ _ _ _ _ c.check.ensures c.in_ok-beside.ensures ∙ rw (c.in-Allocated.is, ← c.rank-from.ensures, ← c.rank-ahead.ensures, ne_eqb _ _ c.if-from-ahead.false, lt-ltb _ _ c.if-ahead-from.true) (run_ask _ _ _)))

pub returns-in_err-fuse : goal.returns-in_err-fuse
unfolding set_state marking
returns-in_err-fuse c = rw (passed _ _ c.from_residual-in_err-fuse.ensures) (sym (tested_on _ _ _ _ _ c.check.ensures c.in_ok-beside.ensures ∙ rw (c.in-Allocated.is, ← c.rank-from.ensures, ← c.rank-ahead.ensures, ne_eqb _ _ c.if-from-ahead.false, le-ltb _ _ c.if-ahead-from.false) (stop _ _ _ _ _ _ tt c.args.f (rw (c.mark.ensures, c.mark_at.ensures) at c.write.ensures) c.in_err-fuse.was)))

pub returns : goal.returns
unfolding set_state marking
returns c = sym (tested_on _ _ _ _ _ c.check.ensures c.in_ok-beside.ensures ∙ rw (c.in-Allocated.is, ← c.rank-from.ensures, ← c.rank-ahead.ensures, ne_eqb _ _ c.if-from-ahead.false, le-ltb _ _ c.if-ahead-from.false) (on _ _ _ _ _ _ tt _ (rw (c.mark.ensures, c.mark_at.ensures) at c.write.ensures) c.in_ok-fuse.was ∙ run_ask _ _ _))
