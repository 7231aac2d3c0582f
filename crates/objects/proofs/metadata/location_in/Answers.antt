use mathlib.Core.Path.{sym, ◌∙◌}
use Rattle.objects.proofs.Reading.{located}
use Rattle.objects.proofs.metadata.location_in.Goals as goal

pub returns : goal.returns
returns c = c.from_bytes.ensures ∙ located _ _ _ _ _ (sym (rw c.requires at c.in_ok-read.ensures.buffer_after))
