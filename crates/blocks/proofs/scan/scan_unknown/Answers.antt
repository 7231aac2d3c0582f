use mathlib.Core.Path.{refl, sym}
use native.Mathlib.Omega.{arith}
use Rattle.medium.proofs.Refusals.{not_done, passed}
use Rattle.medium.proofs.Ranges.{reached}
use Rattle.blocks.proofs.Scans.{unknown_refused, unknown-lent, unknown-within}
use Rattle.blocks.proofs.scan.scan_unknown.Goals as goal

pub returns-in_err-reach : goal.returns-in_err-reach
returns-in_err-reach c = rw (passed _ _ c.from_residual.ensures) (sym (unknown_refused _ _ _ _ _ c.in_err-reach.ensures (not_done _)))

pub overflow_cast-result : goal.overflow_cast-result
overflow_cast-result c =
    let r = reached _ _ _ _ _ _ c.in_ok-reach.ensures refl in
    let h = unknown-within _ _ c.args.h _ _ c.in_ok-reach.ensures _ _ c.lend.ensures c.last_written-used.ensures refl in
    omega (arith, r.fine.sound.small)

pub returns : goal.returns
returns c = sym (unknown-lent _ _ _ _ _ c.in_ok-reach.ensures _ _ c.lend.ensures c.last_written-used.ensures refl)
