use Rattle.objects.specs.Types.{object_type_of}
use Rattle.objects.proofs.NoType.{type_high}
use Rattle.objects.proofs.types.ObjectTypeTryFromU32.try_from.Goals as goal

pub returns-then-n-gt255 : goal.returns-then-n-gt255
unfolding object_type_of
returns-then-n-gt255 c = rw (type_high _ c.if-n-gt255.true)
