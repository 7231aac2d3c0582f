use mathlib.Core.Path.{sym}
use Rattle.crossing.proofs.Crossings.{none_stored_with}
use Rattle.cface.proofs.Counts.{allocate_small, small_by}
use Rattle.cface.proofs.Spending.{given_beside}
use Rattle.cface.proofs.writer_calls.stumpchoir_writer_allocate.Goals as goal

pub returns-in-Err : goal.returns-in-Err
returns-in-Err c = rw (← c.geometry-g.ensures) (none_stored_with _ _ _ _ _ _ _ _ (sym c.in-Err.ensures) (rw c.number.ensures at c.refusal.ensures))

pub hand_out-requires : goal.hand_out-requires
hand_out-requires c = small_by _ _ _ _ c.allocate-a.result.answer c.allocate-a.result.writer c.allocate-a.ensures.image_after (allocate_small _ _ _ _ _)

pub returns : goal.returns
returns c = rw (← c.geometry-g.ensures) (given_beside _ _ _ _ _ _ _ _ _ _ _ _ _ _ (sym c.in-Ok.ensures) c.fuse_of-f.ensures c.allocate-a.ensures.image_after c.hand_out.ensures.value c.hand_out.ensures.units_after c.hand_out.ensures.out_after)
