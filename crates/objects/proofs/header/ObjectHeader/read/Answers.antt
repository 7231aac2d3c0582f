use mathlib.Core.Path.{sym}
use Prim.Native.Nat.{◌≤◌}
use native.Mathlib.Omega.{arith}
use lib.ListN.{length}
use lib.Seq.{length-take-le}
use Rattle.medium.proofs.Checks.{Fine}
use Rattle.objects.proofs.Reading.{fine_of_state}
use Rattle.objects.proofs.header.ObjectHeader.read.Goals as goal

pub slice_bounds-buffer-end : goal.slice_bounds-buffer-end
slice_bounds-buffer-end c =
    let v : Fine c.args.g (length c.args.image.now) = fine_of_state _ _ _ _ (sym c.in_ok-state.ensures) in
    omega (arith, v.sound.s_most)

pub slice_bounds-read_size-end : goal.slice_bounds-read_size-end
slice_bounds-read_size-end c =
    let v : Fine c.args.g (length c.args.image.now) = fine_of_state _ _ _ _ (sym c.in_ok-state.ensures) in
    let h : c.args.g.s ≤ 4 = omega (arith, v.sound.s_most) in
    sym (length-take-le _ _ h)

pub read_size-requires : goal.read_size-requires
read_size-requires c =
    let v : Fine c.args.g (length c.args.image.now) = fine_of_state _ _ _ _ (sym c.in_ok-state.ensures) in
    let h : c.args.g.s ≤ 4 = omega (arith, v.sound.s_most) in
    record { raw_len = length-take-le _ _ h; s_bound = v.sound.s_most }
