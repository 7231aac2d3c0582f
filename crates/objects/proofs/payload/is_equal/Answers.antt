use mathlib.Core.Path.{◌∙◌}
use Rattle.objects.proofs.Equal.{equal_pointwise}
use Rattle.objects.proofs.payload.is_equal.Goals as goal

pub returns : goal.returns
returns c = c.eq.ensures ∙ equal_pointwise _ _
