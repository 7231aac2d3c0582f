use mathlib.Core.Path.{sym, ◌∙◌}
use native.Mathlib.Omega.{arith}
use borrow.Author.Tests.{eqb-true, eqb-false}
use Rattle.lines.proofs.Arguments.{none, some, no_digit, large, step, whole}
use Rattle.lines.proofs.argument.number_of.Goals as goal

pub returns-then-is_empty : goal.returns-then-is_empty
returns-then-is_empty c = sym (none _ (eqb-true _ _ (sym c.is_empty.ensures ∙ c.if-is_empty.true)))

pub loop-b-init : goal.loop-b-init
loop-b-init c = let n = eqb-false _ _ (sym c.is_empty.ensures ∙ c.if-is_empty.false) in some _ (omega arith)

pub returns-then-not-is_ascii_digit : goal.returns-then-not-is_ascii_digit
returns-then-not-is_ascii_digit c = sym (c.loop-b.invariant ∙ no_digit _ _ _ c.loop-b-test.true c.if-not-is_ascii_digit.ensures.cases)

pub returns-in_err-checked_mul : goal.returns-in_err-checked_mul
returns-in_err-checked_mul c = rw c.from_residual.ensures (sym (c.loop-b.invariant ∙ large _ _ _ c.loop-b-test.true c.if-not-is_ascii_digit.ensures.cases (omega (arith, c.in_err-checked_mul.ensures))))

pub returns-in_err-n : goal.returns-in_err-n
returns-in_err-n c = rw c.from_residual-in_err-n.ensures (sym (c.loop-b.invariant ∙ large _ _ _ c.loop-b-test.true c.if-not-is_ascii_digit.ensures.cases (omega (arith, c.in_err-n.ensures, c.in_ok-checked_mul.ensures))))

pub loop-b-preserved : goal.loop-b-preserved
loop-b-preserved c = rw (c.in_ok-n.ensures.1, c.in_ok-checked_mul.ensures.1) (c.loop-b.invariant ∙ step _ _ _ c.loop-b-test.true c.if-not-is_ascii_digit.ensures.cases (omega (arith, c.in_ok-n.ensures, c.in_ok-checked_mul.ensures)))

pub returns : goal.returns
returns c = sym (c.loop-b.invariant ∙ whole _ _ _ c.loop-b-test.false)
