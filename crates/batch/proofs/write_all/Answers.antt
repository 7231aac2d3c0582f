use mathlib.Core.Path.{◌≡◌, refl, sym, ◌∙◌}
use Prim.Native.Nat.{◌/◌}
use lib.ListN.{length}
use native.Mathlib.Omega.{arith}
use Rattle.objects.proofs.Tested.{kept_zero, tested_on, tested_stop}
use Rattle.batch.specs.Batch.{per_record, write_all}
use Rattle.batch.proofs.Turns.{batch_passed, turn_on, turn-stop, turns_end}
use Rattle.batch.proofs.write_all.Goals as goal

pub returns-in-Err : goal.returns-in-Err
unfolding write_all
returns-in-Err c = sym (tested_stop _ _ _ _ _ c.check.ensures c.in-Err.ensures)

pub overflow_cast-n : goal.overflow_cast-n
overflow_cast-n c = omega (arith, batch_passed _ _ _ _ (sym (kept_zero _ _ _ c.in_default.ensures) ∙ c.check.ensures) refl)

pub loop-i-init : goal.loop-i-init
unfolding write_all
loop-i-init c = tested_on _ _ _ _ _ c.check.ensures c.in_default.ensures

pub returns-in-Err-write_record : goal.returns-in-Err-write_record
returns-in-Err-write_record c = sym (c.loop-i.invariant ∙ turn-stop _ _ _ _ _ _ _ _ _ (rw c.at.ensures at c.write_record.ensures) c.in-Err-write_record.is (batch_passed _ _ _ _ (sym (kept_zero _ _ _ c.in_default.ensures) ∙ c.check.ensures) refl).1 (omega arith))

pub loop-i-preserved : goal.loop-i-preserved
loop-i-preserved c = c.loop-i.invariant ∙ turn_on _ _ _ _ _ _ _ _ _ (rw c.at.ensures at c.write_record.ensures) c.in-Ok.is (batch_passed _ _ _ _ (sym (kept_zero _ _ _ c.in_default.ensures) ∙ c.check.ensures) refl).1 (omega arith)

pub returns : goal.returns
returns c =
    let n : c.loop-i.i ≡ length c.args.records.now / per_record = omega arith in
    rw (← n) (sym (c.loop-i.invariant ∙ turns_end _ _ _ _ _ _ _ (batch_passed _ _ _ _ (sym (kept_zero _ _ _ c.in_default.ensures) ∙ c.check.ensures) refl).1 (omega arith)))
