use mathlib.Core.Path.{◌≡◌, refl, sym, ◌∙◌}
use Rattle.objects.proofs.Tested.{kept_zero}
use Rattle.medium.proofs.Refusals.{not_done, passed, kept_err}
use Rattle.medium.proofs.Checks.{fine_of_check}
use Rattle.blocks.specs.BlockHeader.{header_bytes, write_header}
use Rattle.blocks.proofs.Headers.{write_unsound}
use Rattle.blocks.proofs.header.BlockHeader.write.Goals as goal

pub returns-in_err-beside : goal.returns-in_err-beside
unfolding write_header
returns-in_err-beside c =
    let k = kept_err _ _ _ c.in_err-beside.ensures in
    let z : c.in_err-beside.field-0.0.fuse ≡ c.args.f = k.fuse in
    rw (passed _ _ c.from_residual.ensures, z) (write_unsound _ _ _ _ _ _ _ (k.code ∙ c.check.ensures) (not_done _))

pub into_bytes-raw-requires : goal.into_bytes-raw-requires
into_bytes-raw-requires c = let h = fine_of_check _ _ _ (sym (kept_zero _ _ _ c.in_ok-beside.ensures) ∙ c.check.ensures) refl in (h.sound.s_most, h.sound.c_most)

pub returns : goal.returns
unfolding write_header header_bytes
returns c = rw (← c.block_header-n.ensures, ← c.into_bytes-raw.ensures) c.write.ensures
