use mathlib.Core.Path.{◌∙◌}
use Rattle.sweep.proofs.Noted.{data-noted}
use Rattle.sweep.proofs.check.is_listed.Goals as goal

pub returns-then-words-image : goal.returns-then-words-image
returns-then-words-image c = c.is_noted.ensures ∙ data-noted _ _ c.requires.image_value _ c.if-words-image.true _ c.requires.words_value
