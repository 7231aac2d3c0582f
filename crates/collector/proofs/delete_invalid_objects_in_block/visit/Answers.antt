use mathlib.Core.Path.{sym}
use Rattle.medium.proofs.Refusals.{passed}
use Rattle.collector.proofs.Repairs.{visit_skip, visit_stop, visit-deleted, visit_left}
use Rattle.collector.proofs.delete_invalid_objects_in_block.visit.Goals as goal

pub returns-then-not-is : goal.returns-then-not-is
returns-then-not-is c = sym (visit_skip _ _ _ _ _ _ _ (sym c.if-not-is.ensures))

pub returns-in_err-deleted : goal.returns-in_err-deleted
returns-in_err-deleted c = rw (passed _ _ c.from_residual.ensures) (sym (visit_stop _ _ _ _ _ _ _ (sym c.if-not-is.ensures) _ _ c.repair.ensures c.in_err-deleted.was))

pub returns-then-deleted : goal.returns-then-deleted
returns-then-deleted c = rw (c.allow.ensures, c.if-deleted.true) (sym (visit-deleted _ _ _ _ _ _ c.args.table.now (sym c.if-not-is.ensures) _ _ c.repair.ensures c.in_ok-deleted.was c.if-deleted.true))

pub returns-else-deleted : goal.returns-else-deleted
returns-else-deleted c = rw c.if-deleted.false (sym (visit_left _ _ _ _ _ _ _ (sym c.if-not-is.ensures) _ _ c.repair.ensures c.in_ok-deleted.was c.if-deleted.false))
