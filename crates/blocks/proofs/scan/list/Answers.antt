use mathlib.Core.Path.{sym, ◌∙◌}
use native.Mathlib.Omega.{arith}
use Rattle.medium.proofs.Refusals.{passed}
use Rattle.objects.specs.Listing.{listing}
use Rattle.objects.proofs.Listing.{next_moves, header_some}
use Rattle.blocks.proofs.Scans.{no_object, scan-more, scan_stopped, scan-broken}
use Rattle.blocks.proofs.scan.list.Goals as goal

pub loop-o-init : goal.loop-o-init
unfolding listing
loop-o-init c = rw c.new-i.ensures

pub returns-in_err-o : goal.returns-in_err-o
returns-in_err-o c = rw (passed _ _ c.from_residual.ensures) (sym (c.loop-o.invariant ∙ scan-broken _ _ c.requires _ _ _ _ c.in_err-o.ensures))

pub loop-o-smaller : goal.loop-o-smaller
loop-o-smaller c = let v = next_moves _ _ _ _ _ (sym (rw c.in-Object.is at c.in_ok-o.ensures)) in omega (arith, v.forward, v.within, header_some c.args.g.granularity c.args.g.s)

pub loop-o-preserved : goal.loop-o-preserved
loop-o-preserved c = c.loop-o.invariant ∙ scan-more _ _ c.requires _ _ _ _ _ (rw c.in-Object.is at c.in_ok-o.ensures) ∙ rw c.is-allocated.ensures

pub returns : goal.returns
returns c = let n = no_object _ c.in_default.not-Object in rw c.current_offset.ensures (sym (c.loop-o.invariant ∙ scan_stopped _ _ c.requires _ _ _ _ n.stops (sym n.is ∙ c.in_ok-o.ensures)))
