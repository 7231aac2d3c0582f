use mathlib.Core.Path.{sym, ◌∙◌}
use Rattle.sweep.proofs.Lists.{every-on, every-not}
use Rattle.sweep.proofs.Walking.{rest-on, rest-less}
use Rattle.sweep.proofs.check.are_sound.Goals as goal

pub loop-h-smaller : goal.loop-h-smaller
loop-h-smaller c = rest-less _ _ _ c.requires.image_value _ _ _ (rw c.in-Ok-Some.field-0-is at c.in-Ok-Some.ensures.goes)

pub loop-h-preserved : goal.loop-h-preserved
loop-h-preserved c = c.loop-h.invariant ∙ every-on _ _ _ _ (rest-on _ _ _ c.requires.image_value _ _ _ (rw c.in-Ok-Some.field-0-is at c.in-Ok-Some.ensures.goes)) _ c.is_sound.ensures c.if-not-is_sound.false

pub returns-then-not-is_sound : goal.returns-then-not-is_sound
returns-then-not-is_sound c = sym (c.loop-h.invariant ∙ every-not _ _ _ _ (rest-on _ _ _ c.requires.image_value _ _ _ (rw c.in-Ok-Some.field-0-is at c.in-Ok-Some.ensures.goes)) _ c.is_sound.ensures c.if-not-is_sound.true)
