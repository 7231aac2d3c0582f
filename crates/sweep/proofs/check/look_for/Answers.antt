use mathlib.Core.Path.{refl, sym, ◌∙◌}
use mathlib.Core.Bool.{true, false}
use Rattle.blocks.specs.declared.header.BlockType.TheVariants.{Data}
use Rattle.sweep.specs.Referring.{is_listed}
use Rattle.sweep.proofs.Lists.{some-hit, some-miss, same_place, other_offset}
use Rattle.sweep.proofs.Walking.{rest-on, rest-less}
use Rattle.sweep.proofs.Blocks.{from_block, onward-start, onward-rest, onward-past}
use Rattle.sweep.proofs.check.look_for.Goals as goal

pub loop-h-init : goal.loop-h-init
unfolding is_listed
loop-h-init c = rw c.new.ensures (from_block _ _ _ c.requires.image_value_2 _, λ k. onward-start _ _ _ k c.args.at)

pub returns-then-here-at : goal.returns-then-here-at
returns-then-here-at c = sym (c.loop-h.invariant.0 ∙ onward-past c.args.g c.args.image.now Data c.requires.image_value c.args.at _ _ _ (rest-on _ _ _ c.requires.image_value _ _ _ (rw c.in-Ok-Some.field-0-is at c.in-Ok-Some.ensures.goes)) (c.loop-h.invariant.1 c.requires.image_value) c.if-here-at.true)

pub returns-then-here-at-2 : goal.returns-then-here-at-2
returns-then-here-at-2 c = sym (c.loop-h.invariant.0 ∙ some-hit _ _ _ _ (rest-on _ _ _ c.requires.image_value _ _ _ (rw c.in-Ok-Some.field-0-is at c.in-Ok-Some.ensures.goes)) true (sym (same_place _ _ c.if-here-at.false c.if-here-at-2.true)) refl)

pub loop-h-smaller : goal.loop-h-smaller
loop-h-smaller c = rest-less _ _ _ c.requires.image_value _ _ _ (rw c.in-Ok-Some.field-0-is at c.in-Ok-Some.ensures.goes)

pub loop-h-preserved : goal.loop-h-preserved
loop-h-preserved c = (c.loop-h.invariant.0 ∙ some-miss _ _ _ _ (rest-on _ _ _ c.requires.image_value _ _ _ (rw c.in-Ok-Some.field-0-is at c.in-Ok-Some.ensures.goes)) false (sym (other_offset _ _ c.if-here-at.false c.if-here-at-2.false)) refl, λ k. onward-rest c.args.g c.args.image.now Data k c.args.at _ _ _ (rest-on _ _ _ c.requires.image_value _ _ _ (rw c.in-Ok-Some.field-0-is at c.in-Ok-Some.ensures.goes)) (c.loop-h.invariant.1 k))
