use mathlib.Core.Path.{◌≡◌, sym, ap, ◌∙◌}
use native.Mathlib.Omega.{arith}
use borrow.Author.Rules.{rules}
use lib.ListN.{length}
use Rattle.medium.specs.Geometry.{check_of}
use Rattle.medium.proofs.Refusals.{passed, kept_ok, kept_err}
use Rattle.objects.specs.Listing.{next_answer}
use Rattle.objects.proofs.Listing.{next_moves, header_some}
use Rattle.blocks.proofs.Scans.{no_object, next_refused}
use Rattle.collector.proofs.Repairs.{left_stopped, left_broken, left-stop, left-done, left-more}
use Rattle.collector.proofs.delete_invalid_objects_in_block.delete_from.Goals as goal

pub returns-in_err-h : goal.returns-in_err-h
returns-in_err-h c =
    let o : check_of c.args.g (length c.loop-h.image) ≡ 0 = rw c.loop-h.invariant.0 c.requires.image_value in
    let k = kept_err _ _ _ c.in_err-h.ensures in
    let z : c.in_err-h.field-0.0.fuse ≡ c.loop-h.fuse = k.fuse in
    rw (passed _ _ c.from_residual.ensures, z) (sym (left_broken _ _ _ _ _ _ _ c.loop-h.invariant.2 o _ (next_refused _ _ k.refused ∙ c.next.ensures)))

pub returns-in_err-more : goal.returns-in_err-more
returns-in_err-more c =
    let o : check_of c.args.g (length c.loop-h.image) ≡ 0 = rw c.loop-h.invariant.0 c.requires.image_value in
    rw (passed _ _ c.from_residual-in_err-more.ensures) (sym (left-stop _ _ _ _ _ _ _ c.loop-h.invariant.2 o _ _ (sym (ap next_answer (kept_ok _ _ _ (rw c.in-Object.is at c.in_ok-h.ensures))) ∙ c.next.ensures) _ _ c.visit.ensures c.in_err-more.was))

pub returns-then-not-more : goal.returns-then-not-more
returns-then-not-more c =
    let o : check_of c.args.g (length c.loop-h.image) ≡ 0 = rw c.loop-h.invariant.0 c.requires.image_value in
    sym (left-done _ _ _ _ _ _ _ c.loop-h.invariant.2 o _ _ (sym (ap next_answer (kept_ok _ _ _ (rw c.in-Object.is at c.in_ok-h.ensures))) ∙ c.next.ensures) _ _ c.visit.ensures c.in_ok-more.was c.if-not-more.true)

pub loop-h-smaller : goal.loop-h-smaller
loop-h-smaller c = let v = next_moves _ _ _ _ _ (sym (sym (ap next_answer (kept_ok _ _ _ (rw c.in-Object.is at c.in_ok-h.ensures))) ∙ c.next.ensures)) in omega (arith, v.forward, v.within, header_some c.args.g.granularity c.args.g.s)

pub loop-h-preserved : goal.loop-h-preserved
loop-h-preserved c =
    let o : check_of c.args.g (length c.loop-h.image) ≡ 0 = rw c.loop-h.invariant.0 c.requires.image_value in
    (search rules, search rules, left-more _ _ _ _ _ _ _ c.loop-h.invariant.2 o _ _ (sym (ap next_answer (kept_ok _ _ _ (rw c.in-Object.is at c.in_ok-h.ensures))) ∙ c.next.ensures) _ _ c.visit.ensures c.in_ok-more.was c.if-not-more.false)

pub returns : goal.returns
returns c =
    let o : check_of c.args.g (length c.loop-h.image) ≡ 0 = rw c.loop-h.invariant.0 c.requires.image_value in
    let n = no_object _ c.in_default.not-Object in
    sym (left_stopped _ _ _ _ _ _ _ c.loop-h.invariant.2 o _ n.stops (sym n.is ∙ sym (ap next_answer (kept_ok _ _ _ c.in_ok-h.ensures)) ∙ c.next.ensures))
