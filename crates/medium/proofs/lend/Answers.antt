-- `medium::lend` meets its contract.
use mathlib.Core.Path.{◌≡◌, refl}
use Prim.Native.Nat.{◌+◌, ◌-◌, ◌*◌}
use native.Mathlib.Omega.{arith}
use Rattle.medium.proofs.Ranges.{reached, read_part, read_refused}
use Rattle.medium.proofs.Refusals.{not_done}
use Rattle.medium.proofs.lend.Goals as goal

pub returns-in_default : goal.returns-in_default
returns-in_default c = rw (read_refused _ _ _ _ _ _ c.in_default.ensures (not_done _))

pub overflow_add-at : goal.overflow_add-at
overflow_add-at c = let h = reached _ _ _ _ _ _ c.in-Ok.ensures refl in omega (arith, h.ends)

pub overflow_add-end : goal.overflow_add-end
overflow_add-end c = let h = reached _ _ _ _ _ _ c.in-Ok.ensures refl in omega (arith, h.ends)

pub slice_bounds-result-end-2 : goal.slice_bounds-result-end-2
slice_bounds-result-end-2 c = let h = reached _ _ _ _ _ _ c.in-Ok.ensures refl in omega (arith, h.ends)

pub returns : goal.returns
returns c =
    let at = c.args.block * c.args.g.size + c.args.offset in
    let e : at + c.args.n - at ≡ c.args.n = omega arith in
    rw (read_part _ _ _ _ _ _ c.in-Ok.ensures refl, e)
