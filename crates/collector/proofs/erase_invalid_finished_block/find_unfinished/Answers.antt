use mathlib.Core.Path.{refl, sym, ◌∙◌}
use native.Mathlib.Omega.{arith}
use borrow.Author.Tests.{eqb-true, eqb-false}
use Rattle.medium.proofs.Refusals.{passed}
use Rattle.objects.specs.Listing.{listing}
use Rattle.objects.proofs.Listing.{next_moves, header_some}
use Rattle.blocks.proofs.Scans.{no_object}
use Rattle.collector.proofs.Findings.{unfinished_stopped, unfinished_broken, unfinished-here, unfinished-not, unfinished-more}
use Rattle.collector.proofs.erase_invalid_finished_block.find_unfinished.Goals as goal

pub loop-h-init : goal.loop-h-init
unfolding listing
loop-h-init c = rw c.new-i.ensures

pub returns-in_err-h : goal.returns-in_err-h
returns-in_err-h c = rw (passed _ _ c.from_residual.ensures) (sym (c.loop-h.invariant ∙ unfinished_broken _ _ c.requires _ _ c.in_err-h.ensures))

pub returns-then-is : goal.returns-then-is
returns-then-is c = c.find_last.ensures ∙ sym (c.loop-h.invariant ∙ unfinished-here _ _ c.requires _ _ _ (rw c.in-Object.is at c.in_ok-h.ensures) _ refl (eqb-true _ _ (sym c.if-is.ensures)))

pub returns-then-not-is : goal.returns-then-not-is
returns-then-not-is c = sym (c.loop-h.invariant ∙ unfinished-not _ _ c.requires _ _ _ (rw c.in-Object.is at c.in_ok-h.ensures) _ refl (eqb-false _ _ (sym c.if-is.ensures)) (eqb-false _ _ (sym c.if-not-is.ensures)))

pub loop-h-smaller : goal.loop-h-smaller
loop-h-smaller c = let v = next_moves _ _ _ _ _ (sym (rw c.in-Object.is at c.in_ok-h.ensures)) in omega (arith, v.forward, v.within, header_some c.args.g.granularity c.args.g.s)

pub loop-h-preserved : goal.loop-h-preserved
loop-h-preserved c = c.loop-h.invariant ∙ unfinished-more _ _ c.requires _ _ _ (rw c.in-Object.is at c.in_ok-h.ensures) _ refl (eqb-true _ _ (sym c.if-not-is.ensures))

pub returns : goal.returns
returns c = let n = no_object _ c.in_default.not-Object in sym (c.loop-h.invariant ∙ unfinished_stopped _ _ c.requires _ _ n.stops (sym n.is ∙ c.in_ok-h.ensures))
