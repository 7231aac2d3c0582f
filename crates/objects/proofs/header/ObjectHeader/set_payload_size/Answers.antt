use mathlib.Core.Path.{sym, ◌∙◌}
use lib.Seq.{length-take-le}
use Rattle.medium.proofs.Refusals.{passed}
use Rattle.medium.proofs.Runs.{run_ask, on, stop}
use Rattle.objects.specs.Header.{set_payload_size}
use Rattle.objects.proofs.Numbers.{bytes_take}
use Rattle.objects.proofs.Reading.{fine_of_sizable}
use Rattle.objects.proofs.Tested.{kept_zero, tested_stop, tested_on}
use Rattle.objects.proofs.header.ObjectHeader.set_payload_size.Goals as goal

pub returns-in_err-beside : goal.returns-in_err-beside
unfolding set_payload_size
returns-in_err-beside c = rw (passed _ _ c.from_residual.ensures) (sym (tested_stop _ _ _ _ _ c.may_set_size.ensures c.in_err-beside.ensures))

pub slice_bounds-raw-end : goal.slice_bounds-raw-end
slice_bounds-raw-end c = (fine_of_sizable _ _ _ _ c.may_set_size.ensures (kept_zero _ _ _ c.in_ok-beside.ensures)).sound.s_most

pub slice_bounds-write-end : goal.slice_bounds-write-end
slice_bounds-write-end c = sym (length-take-le _ _ (fine_of_sizable _ _ _ _ c.may_set_size.ensures (kept_zero _ _ _ c.in_ok-beside.ensures)).sound.s_most)

pub returns-in_err-fuse : goal.returns-in_err-fuse
unfolding set_payload_size
returns-in_err-fuse c =
    let h = (fine_of_sizable _ _ _ _ c.may_set_size.ensures (kept_zero _ _ _ c.in_ok-beside.ensures)).sound.s_most in
    rw (passed _ _ c.from_residual-in_err-fuse.ensures)
    (sym (tested_on _ _ _ _ _ c.may_set_size.ensures c.in_ok-beside.ensures ∙ stop _ _ _ _ _ _ tt c.args.f (rw (c.size_at.ensures, bytes_take c.args.g.s c.args.size h) at c.write.ensures) c.in_err-fuse.was))

pub returns : goal.returns
unfolding set_payload_size
returns c =
    let h = (fine_of_sizable _ _ _ _ c.may_set_size.ensures (kept_zero _ _ _ c.in_ok-beside.ensures)).sound.s_most in
    rw c.with_size.ensures
    (sym (tested_on _ _ _ _ _ c.may_set_size.ensures c.in_ok-beside.ensures ∙ on _ _ _ _ _ _ tt _ (rw (c.size_at.ensures, bytes_take c.args.g.s c.args.size h) at c.write.ensures) c.in_ok-fuse.was ∙ run_ask _ _ _))
