use mathlib.Core.Path.{sym, ◌∙◌}
use Rattle.sweep.proofs.Lists.{some-hit, some-miss}
use Rattle.sweep.proofs.Walking.{rest-on, rest-less}
use Rattle.sweep.proofs.refs.look_for.Goals as goal

pub returns-then-refers : goal.returns-then-refers
returns-then-refers c = sym (c.loop-h.invariant ∙ some-hit _ _ _ _ (rest-on _ _ _ c.requires _ _ _ (rw c.in-Ok-Some.field-0-is at c.in-Ok-Some.ensures.goes)) _ c.refers.ensures c.if-refers.true)

pub loop-h-smaller : goal.loop-h-smaller
loop-h-smaller c = rest-less _ _ _ c.requires _ _ _ (rw c.in-Ok-Some.field-0-is at c.in-Ok-Some.ensures.goes)

pub loop-h-preserved : goal.loop-h-preserved
loop-h-preserved c = c.loop-h.invariant ∙ some-miss _ _ _ _ (rest-on _ _ _ c.requires _ _ _ (rw c.in-Ok-Some.field-0-is at c.in-Ok-Some.ensures.goes)) _ c.refers.ensures c.if-refers.false
