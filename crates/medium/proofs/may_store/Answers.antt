-- `medium::may_store` meets its contract: past the test of the range the mark decides.
use mathlib.Core.Path.{◌≡◌, refl, sym, ◌∙◌}
use Prim.Native.Nat.{◌+◌, ◌-◌, ◌*◌, ◌≤◌}
use native.Mathlib.Omega.{arith}
use lib.ListN.{length}
use borrow.Author.Tests.{ne_eqb}
use Rattle.medium.specs.Granularity.{width_of, align_of}
use Rattle.medium.specs.Medium.{storable}
use Rattle.medium.proofs.Checks.{write_at}
use Rattle.medium.proofs.Strict.{unmarked, storable_looked}
use borrow.Author.Rules.{rules}
use Rattle.medium.proofs.Refusals.{not_done, passed}
use Rattle.medium.proofs.may_store.Goals as goal

pub returns-in_err-may_write : goal.returns-in_err-may_write
unfolding storable
returns-in_err-may_write c = rw (passed _ _ c.from_residual.ensures) (rw (← c.in_err-may_write.ensures, ne_eqb _ _ (not_done c.in_err-may_write.field-0.0)))

pub returns-then-g-ne1 : goal.returns-then-g-ne1
returns-then-g-ne1 c = sym (unmarked _ _ _ _ _ c.if-g-ne1.true ∙ sym c.in_ok-may_write.ensures)

pub overflow_add-at : goal.overflow_add-at
overflow_add-at c = let h = write_at _ _ _ _ _ _ c.in_ok-may_write.ensures refl in omega arith

pub overflow_add-at-2 : goal.overflow_add-at-2
overflow_add-at-2 c = let h = write_at _ _ _ _ _ _ c.in_ok-may_write.ensures refl in let n : c.units.result * c.width-w.result ≡ align_of (width_of c.args.g.granularity) (length c.args.src.now) = rw (c.units.ensures, c.width-w.ensures) refl in omega (arith, h.ends)

pub slice_bounds-meets-end : goal.slice_bounds-meets-end
slice_bounds-meets-end c = let h = write_at _ _ _ _ _ _ c.in_ok-may_write.ensures refl in let n : c.units.result * c.width-w.result ≡ align_of (width_of c.args.g.granularity) (length c.args.src.now) = rw (c.units.ensures, c.width-w.ensures) refl in let e : c.args.block * c.args.g.size + c.args.offset + c.units.result * c.width-w.result ≤ length c.args.image.now = omega (arith, h.ends) in search rules

pub returns-then-meets : goal.returns-then-meets
returns-then-meets c =
    let k : c.args.block * c.args.g.size + c.args.offset + c.units.result * c.width-w.result - (c.args.block * c.args.g.size + c.args.offset) ≡ c.units.result * c.width-w.result = omega arith in
    let n : c.units.result * c.width-w.result ≡ align_of c.width-w.result (length c.args.src.now) = rw c.units.ensures refl in
    sym (storable_looked _ _ _ _ _ _ _ _ _ c.in_ok-may_write.ensures refl c.if-g-ne1.false c.width-w.ensures n (rw k at c.meets.ensures) ∙ rw c.if-meets.true)

pub returns : goal.returns
returns c =
    let k : c.args.block * c.args.g.size + c.args.offset + c.units.result * c.width-w.result - (c.args.block * c.args.g.size + c.args.offset) ≡ c.units.result * c.width-w.result = omega arith in
    let n : c.units.result * c.width-w.result ≡ align_of c.width-w.result (length c.args.src.now) = rw c.units.ensures refl in
    sym (storable_looked _ _ _ _ _ _ _ _ _ c.in_ok-may_write.ensures refl c.if-g-ne1.false c.width-w.ensures n (rw k at c.meets.ensures) ∙ rw c.if-meets.false)
