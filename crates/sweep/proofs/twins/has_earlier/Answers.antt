use mathlib.Core.Path.{sym, ◌∙◌}
use Rattle.sweep.proofs.Lists.{some_none, some-hit, some-miss, before_here, before_on}
use Rattle.sweep.proofs.Walking.{rest-on, rest-less}
use Rattle.sweep.proofs.twins.has_earlier.Goals as goal

pub returns-then-eq : goal.returns-then-eq
returns-then-eq c = sym (c.loop-e.invariant ∙ some_none _ _ (before_here _ _ _ _ (rest-on _ _ _ c.requires _ _ _ (rw c.in-Ok-Some.field-0-is at c.in-Ok-Some.ensures.goes)) _ c.eq.ensures c.if-eq.true))

pub returns-then-is_twin : goal.returns-then-is_twin
returns-then-is_twin c = sym (c.loop-e.invariant ∙ some-hit _ _ _ _ (before_on _ _ _ _ (rest-on _ _ _ c.requires _ _ _ (rw c.in-Ok-Some.field-0-is at c.in-Ok-Some.ensures.goes)) _ c.eq.ensures c.if-eq.false) _ c.is_twin.ensures c.if-is_twin.true)

pub loop-e-smaller : goal.loop-e-smaller
loop-e-smaller c = rest-less _ _ _ c.requires _ _ _ (rw c.in-Ok-Some.field-0-is at c.in-Ok-Some.ensures.goes)

pub loop-e-preserved : goal.loop-e-preserved
loop-e-preserved c = c.loop-e.invariant ∙ some-miss _ _ _ _ (before_on _ _ _ _ (rest-on _ _ _ c.requires _ _ _ (rw c.in-Ok-Some.field-0-is at c.in-Ok-Some.ensures.goes)) _ c.eq.ensures c.if-eq.false) _ c.is_twin.ensures c.if-is_twin.false
