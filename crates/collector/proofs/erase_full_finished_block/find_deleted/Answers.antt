use mathlib.Core.Path.{refl, sym, ◌∙◌}
use native.Mathlib.Omega.{arith}
use borrow.Author.Tests.{eqb-true, eqb-false}
use Rattle.medium.proofs.Refusals.{passed}
use Rattle.objects.specs.Listing.{listing}
use Rattle.objects.proofs.Listing.{next_moves, header_some}
use Rattle.blocks.proofs.Scans.{no_object}
use Rattle.collector.proofs.Findings.{deleted_stopped, deleted_broken, deleted-not, deleted-more}
use Rattle.collector.proofs.erase_full_finished_block.find_deleted.Goals as goal

pub loop-h-init : goal.loop-h-init
unfolding listing
loop-h-init c = rw c.new-i.ensures

pub returns-in_err-h : goal.returns-in_err-h
returns-in_err-h c = rw (passed _ _ c.from_residual.ensures) (sym (c.loop-h.invariant ∙ deleted_broken _ _ c.requires _ _ c.in_err-h.ensures))

pub returns-then-is_left : goal.returns-then-is_left
returns-then-is_left c = sym (c.loop-h.invariant ∙ deleted-not _ _ c.requires _ _ _ (rw c.in-Object.is at c.in_ok-h.ensures) _ refl (eqb-false _ _ (sym c.is-is_left.ensures ∙ c.if-is_left.true)))

pub loop-h-smaller : goal.loop-h-smaller
loop-h-smaller c = let v = next_moves _ _ _ _ _ (sym (rw c.in-Object.is at c.in_ok-h.ensures)) in omega (arith, v.forward, v.within, header_some c.args.g.granularity c.args.g.s)

pub loop-h-preserved : goal.loop-h-preserved
loop-h-preserved c = c.loop-h.invariant ∙ deleted-more _ _ c.requires _ _ _ (rw c.in-Object.is at c.in_ok-h.ensures) _ refl (eqb-true _ _ (sym c.is-is_left.ensures ∙ c.if-is_left.false))

pub returns : goal.returns
returns c = let n = no_object _ c.in_default.not-Object in sym (c.loop-h.invariant ∙ deleted_stopped _ _ c.requires _ _ n.stops (sym n.is ∙ c.in_ok-h.ensures))
