-- `medium::read` meets its contract.
use mathlib.Core.Path.{◌≡◌, refl}
use Prim.Native.Nat.{◌+◌, ◌-◌, ◌*◌}
use lib.ListN.{length}
use native.Mathlib.Omega.{arith}
use borrow.Author.Tests.{ne_eqb}
use Rattle.medium.specs.Medium.{read_at}
use Rattle.medium.proofs.Checks.{read_at_lem}
use Rattle.medium.proofs.Stores.{read_done}
use Rattle.medium.proofs.Refusals.{not_done, passed}
use Rattle.medium.proofs.read.Goals as goal

pub returns-in_err-reach : goal.returns-in_err-reach
unfolding read_at
returns-in_err-reach c = rw (passed _ _ c.from_residual.ensures) (record { buffer_after = rw (← c.in_err-reach.ensures, ne_eqb _ _ (not_done c.in_err-reach.field-0.0)); buffer_after_2 = refl })

pub overflow_add-at : goal.overflow_add-at
overflow_add-at c = let h = read_at_lem _ _ _ _ _ _ c.in_ok-reach.ensures refl in omega arith

pub overflow_add-at-2 : goal.overflow_add-at-2
overflow_add-at-2 c = let h = read_at_lem _ _ _ _ _ _ c.in_ok-reach.ensures refl in omega arith

pub slice_bounds-copy_from_slice-end : goal.slice_bounds-copy_from_slice-end
slice_bounds-copy_from_slice-end c = let h = read_at_lem _ _ _ _ _ _ c.in_ok-reach.ensures refl in omega arith

pub returns : goal.returns
returns c =
    let a = c.args in
    let at = a.block * a.g.size + a.offset in
    let n = length a.buffer.now in
    let h = read_at_lem _ _ _ _ _ _ c.in_ok-reach.ensures refl in
    let k : at + n - at ≡ n = omega arith in record {
      buffer_after = read_done _ _ _ _ _ _ _ c.in_ok-reach.ensures refl
          (rw k at c.copy_from_slice.ensures.after);
      buffer_after_2 = refl;
    }
