use mathlib.Core.Path.{◌≡◌, sym, ◌∙◌}
use Prim.Native.Nat.{◌+◌, ◌-◌}
use native.Mathlib.Omega.{arith}
use Rattle.medium.proofs.Refusals.{passed}
use Rattle.objects.proofs.Tested.{asked_on, asked_stop}
use Rattle.batch.proofs.Records.{range_stop, in_range}
use Rattle.batch.proofs.write_record.Goals as goal

pub returns-then-payload-end : goal.returns-then-payload-end
returns-then-payload-end c = rw c.beside.ensures (sym (range_stop _ _ _ _ _ _ c.if-payload-end.true))

pub returns-in_err-t : goal.returns-in_err-t
returns-in_err-t c = rw (passed _ _ c.from_residual.ensures) (sym (in_range _ _ _ c.args.r _ _ c.if-payload-end.false ∙ asked_stop _ _ _ _ _ c.try_from.ensures c.in_err-t.ensures))

pub returns : goal.returns
returns c =
    let r = c.args.r in
    let n : r.start + r.length - r.start ≡ r.length = omega arith in
    (rw n at c.write_to.ensures) ∙ sym (in_range _ _ _ r _ _ c.if-payload-end.false ∙ asked_on _ _ _ _ _ c.try_from.ensures c.in_ok-t.ensures)
