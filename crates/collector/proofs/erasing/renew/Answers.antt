use mathlib.Core.Path.{sym}
use Rattle.medium.proofs.Refusals.{passed}
use Rattle.collector.proofs.Findings.{renew_worn, renew-stop, renew_done}
use Rattle.collector.proofs.erasing.renew.Goals as goal

pub returns-then-n-eq4294967295 : goal.returns-then-n-eq4294967295
returns-then-n-eq4294967295 c = renew_worn _ _ _ _ c.args.image.now c.args.image.now c.args.table.now c.worn_out.result c.if-n-eq4294967295.true c.worn_out.ensures

pub returns-in_err-left : goal.returns-in_err-left
returns-in_err-left c = rw (passed _ _ c.from_residual.ensures) (sym (renew-stop _ _ _ _ _ _ _ _ c.if-n-eq4294967295.false c.format_block.ensures c.in_err-left.was))

pub returns : goal.returns
returns c = rw (c.put.ensures, c.erased_record.ensures) (sym (renew_done _ _ _ _ _ _ c.args.table.now _ c.if-n-eq4294967295.false c.format_block.ensures c.in_ok-left.was))
