use native.Mathlib.Omega.{arith}
use Rattle.medium.proofs.Places.{width_is}
use Rattle.writer.proofs.Laws.{sound_is}
use mathlib.Core.Path.{refl}
use Rattle.writer.proofs.writer.ObjectWriter.may_write.Goals as goal

pub data_at-requires : goal.data_at-requires
data_at-requires c = let s = sound_is c.args.self c.args.g _ _ c.in_ok-sound.ensures refl in omega (arith, s.possible.cursor)

pub overflow_add-at : goal.overflow_add-at
overflow_add-at c = let s = sound_is c.args.self c.args.g _ _ c.in_ok-sound.ensures refl in omega (arith, s.possible.held, width_is c.args.g.granularity, c.data_at.ensures.upper_bound)
