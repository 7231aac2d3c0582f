use mathlib.Core.Path.{sym, ◌∙◌}
use Rattle.medium.proofs.Refusals.{passed}
use Rattle.storage.proofs.Looking.{look_start, look_stop, look_end, look-refused, look-found, look-on, look-less}
use Rattle.storage.proofs.lookup.lookup.Goals as goal

pub loop-h-init : goal.loop-h-init
loop-h-init c = look_start _ _ _ _ ∙ rw c.new-v.ensures

pub returns-in_err-h : goal.returns-in_err-h
returns-in_err-h c = rw (passed _ _ c.from_residual.ensures) (sym (c.loop-h.invariant ∙ look_stop _ _ _ _ _ _ c.in_err-h.ensures.result_value))

pub returns-in_err-is_named : goal.returns-in_err-is_named
returns-in_err-is_named c = rw (passed _ _ c.from_residual-in_err-is_named.ensures) (sym (c.loop-h.invariant ∙ look-refused _ _ _ _ _ _ _ (rw c.in-Some.is at c.in_ok-h.ensures.result_value) (rw c.in-Some.is at c.in_ok-h.ensures.goes) _ c.in_err-is_named.ensures))

pub returns-then-branch : goal.returns-then-branch
returns-then-branch c = sym (c.loop-h.invariant ∙ look-found _ _ _ _ _ _ _ (rw c.in-Some.is at c.in_ok-h.ensures.result_value) (rw c.in-Some.is at c.in_ok-h.ensures.goes) (rw c.if-branch.true at c.in_ok-is_named.ensures))

pub loop-h-smaller : goal.loop-h-smaller
loop-h-smaller c = look-less _ c.args.path.now c.args.hash _ _ _ _ (rw c.in-Some.is at c.in_ok-h.ensures.result_value) (rw c.in-Some.is at c.in_ok-h.ensures.goes)

pub loop-h-preserved : goal.loop-h-preserved
loop-h-preserved c = c.loop-h.invariant ∙ look-on _ _ _ _ _ _ _ (rw c.in-Some.is at c.in_ok-h.ensures.result_value) (rw c.in-Some.is at c.in_ok-h.ensures.goes) (rw c.if-branch.false at c.in_ok-is_named.ensures)

pub returns : goal.returns
returns c = sym (c.loop-h.invariant ∙ look_end _ _ _ _ _ (rw c.in_default.is at c.in_ok-h.ensures.result_value))
