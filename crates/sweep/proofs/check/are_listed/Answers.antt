use mathlib.Core.Path.{sym, ◌∙◌}
use Rattle.sweep.proofs.Lists.{every-on, every-not}
use Rattle.sweep.proofs.Places.{places-on, places-less}
use Rattle.sweep.proofs.check.are_listed.Goals as goal

pub loop-at-smaller : goal.loop-at-smaller
loop-at-smaller c = places-less _ _ c.requires.image_value _ _ _ (rw c.in-Ok-Some.field-0-is at c.in-Ok-Some.ensures)

pub loop-at-preserved : goal.loop-at-preserved
loop-at-preserved c = c.loop-at.invariant ∙ every-on _ _ _ _ (places-on _ _ c.requires.image_value _ _ _ (rw c.in-Ok-Some.field-0-is at c.in-Ok-Some.ensures)) _ c.is_listed.ensures c.if-not-is_listed.false

pub returns-then-not-is_listed : goal.returns-then-not-is_listed
returns-then-not-is_listed c = sym (c.loop-at.invariant ∙ every-not _ _ _ _ (places-on _ _ c.requires.image_value _ _ _ (rw c.in-Ok-Some.field-0-is at c.in-Ok-Some.ensures)) _ c.is_listed.ensures c.if-not-is_listed.true)
