use mathlib.Core.Path.{sym, ◌∙◌}
use native.Mathlib.Omega.{arith}
use Rattle.storage.proofs.Pieces.{fill_full, room_for, copied}
use Rattle.storage.proofs.file.fill.Goals as goal

pub copy_from_slice-requires : goal.copy_from_slice-requires
copy_from_slice-requires c =
    let f = rw c.in-Ok-Some.field-0-is at c.in-Ok-Some.ensures.fits in
    rw c.lend-bytes.ensures (room_for c.args.g c.args.image.now c.loop-taken.taken c.in-Ok-Some.piece c.loop-taken.buffer f.0 (omega (arith, f.1, c.loop-taken-test.true)))

pub loop-taken-preserved : goal.loop-taken-preserved
loop-taken-preserved c =
    let f = rw c.in-Ok-Some.field-0-is at c.in-Ok-Some.ensures.fits in
    let w = copied c.args.g c.args.image.now c.loop-taken.taken c.in-Ok-Some.piece c.in-Ok-Some.next _ c.loop-taken.buffer (rw c.in-Ok-Some.field-0-is at c.in-Ok-Some.ensures.result_value) f.0 (omega (arith, f.1, c.loop-taken-test.true)) _ (c.copy_from_slice.ensures.after ∙ c.lend-bytes.ensures) c.loop-taken.invariant.2 in
    (w.0, w.1 ∙ c.loop-taken.invariant.1, w.2, c.loop-taken.invariant.3 ∙ w.3)

pub returns : goal.returns
returns c = sym (c.loop-taken.invariant.3 ∙ fill_full _ _ _ _ _ _ c.loop-taken-test.false)
