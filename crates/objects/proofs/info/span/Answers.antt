use native.Mathlib.Omega.{arith}
use Rattle.objects.specs.Info.{total_of}
use Rattle.objects.proofs.Places.{header_small}
use Rattle.objects.proofs.Reading.{payload_le}
use Rattle.objects.proofs.info.span.Goals as goal

pub overflow_cast-total : goal.overflow_cast-total
unfolding total_of
overflow_cast-total c = let h = header_small c.args.k c.args.s in let p = payload_le c.args.s c.args.h in omega (arith, c.total.ensures.value, c.requires)
