use mathlib.Core.Path.{sym, ◌∙◌}
use Rattle.medium.proofs.Refusals.{passed}
use Rattle.objects.proofs.Tested.{kept_zero, tested_on, tested_stop}
use Rattle.writer.specs.Writer.{write_some}
use Rattle.writer.proofs.Laws.{has_room}
use Rattle.writer.proofs.writer.ObjectWriter.try_write.Goals as goal

pub returns-in_err-beside : goal.returns-in_err-beside
unfolding write_some
returns-in_err-beside c = rw (passed _ _ c.from_residual.ensures) (sym (tested_stop _ _ _ _ _ c.may_write.ensures c.in_err-beside.ensures))

pub store-requires : goal.store-requires
store-requires c = let v = has_room c.args.self c.args.g _ _ _ c.may_write.ensures (kept_zero _ _ _ c.in_ok-beside.ensures) in record { cursor_bound = (v.sound.possible.cursor, v.sound.possible.held); src_bound = (v.fits, v.sound.fine.sound.small) }

pub returns : goal.returns
unfolding write_some
returns c = c.store.ensures ∙ sym (tested_on _ _ _ _ _ c.may_write.ensures c.in_ok-beside.ensures)
