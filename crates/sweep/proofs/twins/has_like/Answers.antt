use mathlib.Core.Path.{sym, ◌∙◌}
use Rattle.sweep.proofs.Blocks.{from-earlier}
use Rattle.sweep.proofs.twins.has_like.Goals as goal

pub returns-then-has_earlier : goal.returns-then-has_earlier
returns-then-has_earlier c = sym (from-earlier _ _ _ c.requires.image_value_2 _ _ _ c.if-block-h.true (sym c.has_earlier.ensures ∙ c.if-has_earlier.true))
