use mathlib.Core.Path.{sym, ◌∙◌}
use native.Mathlib.Omega.{arith}
use Rattle.medium.proofs.Places.{width_is}
use Rattle.medium.proofs.Refusals.{passed}
use Rattle.objects.proofs.Tested.{kept_zero, tested_on, tested_stop}
use Rattle.writer.specs.Writer.{delete}
use Rattle.writer.proofs.Laws.{sound_is}
use Rattle.writer.proofs.writer.ObjectWriter.try_delete.Goals as goal

pub returns-in_err-beside : goal.returns-in_err-beside
unfolding delete
returns-in_err-beside c = rw (passed _ _ c.from_residual.ensures) (sym (tested_stop _ _ _ _ _ c.sound.ensures c.in_err-beside.ensures))

pub deleting-requires : goal.deleting-requires
deleting-requires c = let v = sound_is c.args.self c.args.g _ _ c.sound.ensures (kept_zero _ _ _ c.in_ok-beside.ensures) in (v.possible.cursor, omega (arith, v.possible.held, width_is c.args.g.granularity))

pub returns : goal.returns
unfolding delete
returns c = c.deleting.ensures ∙ sym (tested_on _ _ _ _ _ c.sound.ensures c.in_ok-beside.ensures)
