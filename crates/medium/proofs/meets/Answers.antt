-- `medium::meets` meets its contract: before a unit none would be programmed again.
use mathlib.Core.Path.{◌≡◌, sym, ◌∙◌}
use Prim.Native.Nat.{◌+◌, ◌*◌, ◌<◌}
use native.Mathlib.Nat.{suc-mul}
use native.Mathlib.Numerals.{add-one}
use lib.ListN.{length}
use Rattle.medium.proofs.Strict.{look, look_next, look_end, unit_within, unit_behind}
use Rattle.medium.proofs.meets.Goals as goal

pub returns-then-meets_at : goal.returns-then-meets_at
returns-then-meets_at c =
    let i = c.loop-unit.unit * c.args.w in
    let w : i < length c.args.src.now = unit_within _ _ _ c.requires.le_w.0 (rw c.units-unit-end.ensures at c.loop-unit-test.true) in
    sym (c.loop-unit.invariant.1 ∙ look c.args.w c.requires.le_w.0 c.args.old.now c.args.src.now i w c.loop-unit.invariant.0 ∙ rw (← c.meets_at.ensures, c.if-meets_at.true))

pub loop-unit-preserved : goal.loop-unit-preserved
loop-unit-preserved c =
    let i = c.loop-unit.unit * c.args.w in
    let w : i < length c.args.src.now = unit_within _ _ _ c.requires.le_w.0 (rw c.units-unit-end.ensures at c.loop-unit-test.true) in
    let e : (c.loop-unit.unit + 1) * c.args.w ≡ i + c.args.w = rw add-one (suc-mul c.loop-unit.unit c.args.w) in
    rw e (
      look_next c.args.w c.requires.le_w.0 c.args.old.now c.args.src.now i w c.loop-unit.invariant.0,
      c.loop-unit.invariant.1 ∙ look c.args.w c.requires.le_w.0 c.args.old.now c.args.src.now i w c.loop-unit.invariant.0 ∙ rw (← c.meets_at.ensures, c.if-meets_at.false),
    )

pub returns : goal.returns
returns c = sym (c.loop-unit.invariant.1 ∙ look_end c.args.w c.requires.le_w.0 c.args.old.now c.args.src.now (c.loop-unit.unit * c.args.w) (unit_behind _ _ _ c.requires.le_w.0 (rw c.units-unit-end.ensures at c.loop-unit-test.false)))
