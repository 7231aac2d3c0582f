use mathlib.Core.Path.{sym, ◌∙◌}
use Rattle.objects.proofs.Payloads.{first_unread, second_unread, both_read, err_number, ok_number}
use Rattle.objects.proofs.payload.is_same.Goals as goal

pub returns-then-is_err : goal.returns-then-is_err
returns-then-is_err c = sym (first_unread _ _ _ _ _ c.reach.ensures (err_number c.reach.result (sym c.is_err.ensures.value ∙ c.if-is_err.true)))

pub returns-then-is_err-2 : goal.returns-then-is_err-2
returns-then-is_err-2 c = sym (second_unread _ _ _ _ _ c.reach.ensures (ok_number c.reach.result (sym c.is_err.ensures.value ∙ c.if-is_err.false)) _ c.reach-2.ensures (err_number c.reach-2.result (sym c.is_err-2.ensures.value ∙ c.if-is_err-2.true)))

pub returns : goal.returns
returns c = c.is_equal.ensures ∙ sym (both_read _ _ _ _ _ c.reach.ensures _ c.lend.ensures (ok_number c.reach.result (sym c.is_err.ensures.value ∙ c.if-is_err.false)) _ c.reach-2.ensures _ c.lend-2.ensures (ok_number c.reach-2.result (sym c.is_err-2.ensures.value ∙ c.if-is_err-2.false)))
