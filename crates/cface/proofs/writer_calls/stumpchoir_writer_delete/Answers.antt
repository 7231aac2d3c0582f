use mathlib.Core.Path.{sym}
use Rattle.cface.proofs.Counts.{delete_small, small_by}
use Rattle.cface.proofs.Spending.{writer_uncut, given_spent, none_spent}
use Rattle.cface.proofs.writer_calls.stumpchoir_writer_delete.Goals as goal

pub returns-in-Err : goal.returns-in-Err
returns-in-Err c = rw (← c.geometry-g.ensures) (none_spent _ _ _ _ _ _ _ (writer_uncut _) (sym c.in-Err.ensures) (rw c.number.ensures at c.refusal.ensures))

pub hand_back-requires : goal.hand_back-requires
hand_back-requires c = small_by _ _ _ _ c.delete-a.result.answer c.delete-a.result.writer c.delete-a.ensures.image_after (delete_small _ _ _ _)

pub returns : goal.returns
returns c = rw (← c.geometry-g.ensures) (given_spent _ _ _ _ _ _ _ _ _ _ _ _ _ _ (sym c.in-Ok.ensures) c.fuse_of-f.ensures c.delete-a.ensures.image_after c.hand_back.ensures.value c.hand_back.ensures.units_after c.hand_back.ensures.out_after)
