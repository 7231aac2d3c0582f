use mathlib.Core.Path.{sym, ◌∙◌}
use Rattle.sweep.proofs.Lists.{some-hit, some-miss}
use Rattle.sweep.proofs.Places.{places-on, places-less}
use Rattle.sweep.proofs.refs.lists.Goals as goal

pub returns-then-eq : goal.returns-then-eq
returns-then-eq c = sym (c.loop-l.invariant ∙ some-hit _ _ _ _ (places-on _ _ c.requires _ _ _ (rw c.in-Ok-Some.field-0-is at c.in-Ok-Some.ensures)) _ c.eq.ensures c.if-eq.true)

pub loop-l-smaller : goal.loop-l-smaller
loop-l-smaller c = places-less _ _ c.requires _ _ _ (rw c.in-Ok-Some.field-0-is at c.in-Ok-Some.ensures)

pub loop-l-preserved : goal.loop-l-preserved
loop-l-preserved c = c.loop-l.invariant ∙ some-miss _ _ _ _ (places-on _ _ c.requires _ _ _ (rw c.in-Ok-Some.field-0-is at c.in-Ok-Some.ensures)) _ c.eq.ensures c.if-eq.false
