use mathlib.Core.Path.{◌≡◌, sym, ◌∙◌}
use native.Mathlib.Omega.{arith}
use Prim.Native.Nat.{◌-◌}
use Rattle.medium.proofs.Refusals.{passed}
use Rattle.objects.proofs.Tested.{tested_on, tested_stop}
use Rattle.blocks.specs.Format.{format_storage}
use Rattle.medium.proofs.Runs.{on, stop}
use Rattle.blocks.proofs.Formats.{format_step, format_end}
use Rattle.blocks.proofs.format.format_storage.Goals as goal

pub returns-in_err-beside : goal.returns-in_err-beside
unfolding format_storage
returns-in_err-beside c = rw (passed _ _ c.from_residual.ensures) (sym (tested_stop _ _ _ _ _ c.check.ensures c.in_err-beside.ensures))

pub loop-b-init : goal.loop-b-init
unfolding format_storage
loop-b-init c = let m : c.args.g.count - 0 ≡ c.args.g.count = omega arith in rw m (tested_on _ _ _ _ _ c.check.ensures c.in_ok-beside.ensures)

pub returns-in_err-fuse : goal.returns-in_err-fuse
returns-in_err-fuse c = rw (passed _ _ c.from_residual-in_err-fuse.ensures) (sym (c.loop-b.invariant ∙ format_step _ _ _ _ _ (omega arith) ∙ stop _ _ _ _ _ _ tt c.args.f c.format_block.ensures c.in_err-fuse.was))

pub loop-b-preserved : goal.loop-b-preserved
loop-b-preserved c = c.loop-b.invariant ∙ format_step _ _ _ _ _ (omega arith) ∙ on _ _ _ _ _ _ _ _ c.format_block.ensures c.in_ok-fuse.was

pub returns : goal.returns
returns c = sym (c.loop-b.invariant ∙ format_end _ _ _ _ _ (omega arith))
