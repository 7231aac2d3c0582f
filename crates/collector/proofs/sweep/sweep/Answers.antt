use mathlib.Core.Path.{◌≡◌, refl, sym, ◌∙◌}
use native.Mathlib.Omega.{arith}
use borrow.Author.Rules.{rules}
use Prim.Native.Nat.{◌-◌}
use Rattle.std.specs.Prelude.{Err}
use Rattle.medium.proofs.Refusals.{passed}
use Rattle.medium.proofs.Runs.{on, stop}
use Rattle.collector.proofs.Tables.{collect_checked, rows_of}
use Rattle.objects.proofs.Tested.{kept_zero, tested_on, tested_stop}
use Rattle.collector.specs.Passes.{pass}
use Rattle.collector.proofs.Sweeps.{sweep_step, sweep_end, block_on, block_stop}
use Rattle.collector.proofs.sweep.sweep.Goals as goal

pub returns-in_err-beside : goal.returns-in_err-beside
unfolding pass
returns-in_err-beside g c = rw (passed _ _ c.from_residual.ensures) (sym (tested_stop _ _ _ _ _ c.check.ensures c.in_err-beside.ensures))

pub loop-b-init : goal.loop-b-init
unfolding pass
loop-b-init g c = let m : c.args.g.count - 0 ≡ c.args.g.count = omega arith in (refl, refl, rw m (tested_on _ _ _ _ _ c.check.ensures c.in_ok-beside.ensures))

pub record_at-requires : goal.record_at-requires
record_at-requires g c =
    let h = rows_of _ _ _ _ (sym (kept_zero _ _ _ c.in_ok-beside.ensures) ∙ c.check.ensures) refl in
    omega (arith, h, c.loop-b.invariant)

pub returns-in_err-info : goal.returns-in_err-info
returns-in_err-info g c =
    rw (passed _ _ c.from_residual-in_err-info.ensures)
    (sym (c.loop-b.invariant.2 ∙ sweep_step _ _ _ _ _ _ (omega arith) ∙ stop _ _ _ _ _ (Err c.in_err-info.field-0.0) tt c.args.f (sym (block_stop _ _ _ _ _ _ c.record_at.ensures c.in_err-info.ensures)) refl))

pub step-requires-clause-has_record : goal.step-requires-clause-has_record
step-requires-clause-has_record g c =
    let h = rows_of _ _ _ _ (sym (kept_zero _ _ _ c.in_ok-beside.ensures) ∙ c.check.ensures) refl in
    omega (arith, h, c.loop-b.invariant)

pub step-requires-clause-image_value : goal.step-requires-clause-image_value
step-requires-clause-image_value g c = rw c.loop-b.invariant.0 (collect_checked _ _ _ _ (sym (kept_zero _ _ _ c.in_ok-beside.ensures) ∙ c.check.ensures) refl)

pub returns-in_err-fuse : goal.returns-in_err-fuse
returns-in_err-fuse g c =
    rw (passed _ _ c.from_residual-in_err-fuse.ensures)
    (sym (c.loop-b.invariant.2 ∙ sweep_step _ _ _ _ _ _ (omega arith) ∙ stop _ _ _ _ _ _ tt c.args.f (c.step.ensures ∙ sym (block_on _ _ _ _ _ _ c.record_at.ensures c.in_ok-info.ensures)) c.in_err-fuse.was))

pub loop-b-preserved : goal.loop-b-preserved
loop-b-preserved g c =
    (search rules, search rules, c.loop-b.invariant.2 ∙ sweep_step _ _ _ _ _ _ (omega arith) ∙ on _ _ _ _ _ _ tt _ (c.step.ensures ∙ sym (block_on _ _ _ _ _ _ c.record_at.ensures c.in_ok-info.ensures)) c.in_ok-fuse.was)

pub returns : goal.returns
returns g c = sym (c.loop-b.invariant.2 ∙ sweep_end _ _ _ _ _ _ (omega arith))
