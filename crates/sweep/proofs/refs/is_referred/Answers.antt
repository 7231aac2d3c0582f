use mathlib.Core.Path.{◌∙◌}
use Rattle.sweep.proofs.Noted.{referred-noted}
use Rattle.sweep.proofs.refs.is_referred.Goals as goal

pub returns-then-words-image : goal.returns-then-words-image
returns-then-words-image c = c.is_noted.ensures ∙ referred-noted _ _ c.requires.image_value _ c.if-words-image.true _ c.requires.inside c.requires.words_value
