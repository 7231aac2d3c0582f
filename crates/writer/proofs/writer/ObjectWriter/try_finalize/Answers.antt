use mathlib.Core.Path.{sym, ◌∙◌}
use native.Mathlib.Omega.{arith}
use Rattle.medium.proofs.Places.{width_is}
use Rattle.medium.proofs.Refusals.{passed}
use Rattle.objects.proofs.Tested.{kept_zero, tested_on, tested_stop}
use Rattle.writer.specs.Writer.{finalize}
use Rattle.writer.proofs.Laws.{finish_is}
use Rattle.writer.proofs.writer.ObjectWriter.try_finalize.Goals as goal

pub returns-in_err-beside : goal.returns-in_err-beside
unfolding finalize
returns-in_err-beside c = rw (passed _ _ c.from_residual.ensures) (sym (tested_stop _ _ _ _ _ c.may_finish.ensures c.in_err-beside.ensures))

pub close-requires : goal.close-requires
close-requires c = let v = finish_is c.args.self c.args.g _ _ c.may_finish.ensures (kept_zero _ _ _ c.in_ok-beside.ensures) in (v.possible.cursor, omega (arith, v.possible.held, width_is c.args.g.granularity))

pub returns : goal.returns
unfolding finalize
returns c = c.close.ensures ∙ sym (tested_on _ _ _ _ _ c.may_finish.ensures c.in_ok-beside.ensures)
