-- `medium::may_write` meets its contract.
use mathlib.Core.Path.{sym, ◌∙◌}
use mathlib.Core.Bool.{and-false}
use Prim.Native.Nat.{◌+◌, ◌<◌, ◌≤◌}
use native.Mathlib.Omega.{arith}
use borrow.Author.Tests.{le-leb, lt-leb, eq-eqb, ne_eqb}
use Rattle.medium.specs.Granularity.{align_of, width_of}
use Rattle.medium.proofs.Places.{width_is, taken_le}
use Rattle.medium.proofs.Ranges.{reached, write_unreached, write_reached}
use mathlib.Core.Path.{refl}
use Rattle.medium.proofs.Refusals.{not_done, passed}
use Rattle.medium.proofs.may_write.Goals as goal

pub returns-in_err-reach : goal.returns-in_err-reach
returns-in_err-reach c = rw (passed _ _ c.from_residual.ensures) (write_unreached _ _ _ _ _ _ c.in_err-reach.ensures (not_done _))

pub returns-then-offset-w-ne0 : goal.returns-then-offset-w-ne0
returns-then-offset-w-ne0 c = sym (write_reached _ _ _ _ _ (reached _ _ _ _ _ _ c.in_ok-reach.ensures refl) ∙ simp (ne_eqb _ _ (rw c.width-w.ensures at c.if-offset-w-ne0.true)))

pub units-requires : goal.units-requires
units-requires c = record {
  le_w = (let h = reached _ _ _ _ _ _ c.in_ok-reach.ensures refl in
      omega (arith, width_is c.args.g.granularity, c.width-w.ensures, h.inside, h.fine.sound.small));
  n_bound = (let h = reached _ _ _ _ _ _ c.in_ok-reach.ensures refl in
      omega (arith, width_is c.args.g.granularity, c.width-w.ensures, h.inside, h.fine.sound.small));
}

pub overflow_mul-taken : goal.overflow_mul-taken
overflow_mul-taken c =
    let r = reached _ _ _ _ _ _ c.in_ok-reach.ensures refl in
    let w = width_is c.args.g.granularity in
    let h = taken_le _ _ _ c.units.ensures (omega (arith, c.width-w.ensures)) in
    omega (arith, r.inside, r.fine.sound.small)

pub overflow_sub-g : goal.overflow_sub-g
overflow_sub-g c = omega (arith, (reached _ _ _ _ _ _ c.in_ok-reach.ensures refl).inside)

pub returns-then-g-offset : goal.returns-then-g-offset
returns-then-g-offset c =
    let k = width_of c.args.g.granularity in
    let u = rw (c.units.ensures, c.width-w.ensures) at c.if-g-offset.true in
    let h : c.args.g.size < c.args.offset + align_of (width_of c.args.g.granularity) c.args.n = omega arith in
    sym (write_reached _ _ _ _ _ (reached _ _ _ _ _ _ c.in_ok-reach.ensures refl) ∙ simp (lt-leb _ _ h, and-false))

pub returns : goal.returns
returns c =
    let r = reached _ _ _ _ _ _ c.in_ok-reach.ensures refl in
    let u = rw (c.units.ensures, c.width-w.ensures) at c.if-g-offset.false in
    let h : c.args.offset + align_of (width_of c.args.g.granularity) c.args.n ≤ c.args.g.size = omega (arith, r.inside) in
    sym (write_reached _ _ _ _ _ r ∙ simp (eq-eqb _ _ (rw c.width-w.ensures at c.if-offset-w-ne0.false), le-leb _ _ h))
