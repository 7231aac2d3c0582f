use Rattle.crossing.specs.Values.{state_of}
use Rattle.objects.proofs.NoType.{type_high}
use Rattle.crossing.proofs.values.state_of.Goals as goal

pub returns-then-kind-gt255 : goal.returns-then-kind-gt255
unfolding state_of
returns-then-kind-gt255 c = rw (type_high _ c.if-kind-gt255.true)
