use mathlib.Core.Path.{sym, ◌∙◌}
use Rattle.std.specs.Prelude.{None, Some, Ok, Err}
use Rattle.medium.proofs.Refusals.{passed}
use Rattle.storage.proofs.Order.{tour_end, tour_shut, tour-refused, tour-step, step-nearer, step-behind, visit_answer_lem, visit_stop}
use Rattle.storage.proofs.visit.Visitor.next.Goals as goal

pub returns-in_err-check : goal.returns-in_err-check
returns-in_err-check c = rw (passed _ _ c.from_residual.ensures) (let both = visit_stop _ _ _ _ _ c.in_err-check.ensures in record { result_value = both.0; goes = both.1 })

pub returns-in_err-is_open : goal.returns-in_err-is_open
returns-in_err-is_open c = rw (passed _ _ c.from_residual-in_err-is_open.ensures) (let both = visit_answer_lem _ _ _ _ (Err _) (sym c.in_ok-check.ensures) (c.loop-v.invariant ∙ tour-refused _ _ _ _ c.loop-v-test.true _ (sym c.in_err-is_open.ensures)) tt in record { result_value = both.0; goes = both.1 })

pub loop-v-preserved : goal.loop-v-preserved
loop-v-preserved c = c.loop-v.invariant ∙ tour_shut _ _ _ _ c.loop-v-test.true (sym (rw c.if-branch.false at c.in_ok-is_open.ensures)) ∙ rw c.onward-v.ensures

pub returns-in_err-h : goal.returns-in_err-h
returns-in_err-h c = rw (passed _ _ c.from_residual-in_err-h.ensures) (let both = visit_answer_lem _ _ _ _ (Err c.in_err-h.field-0.0) (sym c.in_ok-check.ensures) (c.loop-v.invariant ∙ tour-step _ _ _ _ (sym c.in_ok-check.ensures) c.loop-v-test.true (sym (rw c.if-branch.true at c.in_ok-is_open.ensures)) ∙ rw (← c.in_err-h.ensures)) tt in record { result_value = both.0; goes = both.1 })

pub returns-in-Object : goal.returns-in-Object
returns-in-Object c = let both = visit_answer_lem _ _ _ _ (Ok (Some (c.in-Object.h, c.in-Object.w))) (sym c.in_ok-check.ensures) (c.loop-v.invariant ∙ tour-step _ _ _ _ (sym c.in_ok-check.ensures) c.loop-v-test.true (sym (rw c.if-branch.true at c.in_ok-is_open.ensures)) ∙ rw (← rw c.in-Object.is at c.in_ok-h.ensures)) (step-behind _ c.args.t _ _ (sym c.in_ok-check.ensures) c.loop-v-test.true _ _ (sym (rw c.in-Object.is at c.in_ok-h.ensures))) in record { result_value = both.0; goes = both.1 }

pub loop-v-smaller-in-On : goal.loop-v-smaller-in-On
loop-v-smaller-in-On c = step-nearer _ c.args.t _ _ (sym c.in_ok-check.ensures) c.loop-v-test.true _ (sym (rw c.in-On.is at c.in_ok-h.ensures))

pub loop-v-preserved-in-On : goal.loop-v-preserved-in-On
loop-v-preserved-in-On c = c.loop-v.invariant ∙ tour-step _ _ _ _ (sym c.in_ok-check.ensures) c.loop-v-test.true (sym (rw c.if-branch.true at c.in_ok-is_open.ensures)) ∙ rw (← rw c.in-On.is at c.in_ok-h.ensures)

pub returns : goal.returns
returns c = let both = visit_answer_lem _ _ _ _ (Ok None) (sym c.in_ok-check.ensures) (c.loop-v.invariant ∙ tour_end _ _ _ _ c.loop-v-test.false) tt in record { result_value = both.0; goes = both.1 }
