use Rattle.objects.specs.declared.iterator.ObjectIterator.{ObjectIterator}
use mathlib.Core.Path.{◌≡◌, refl, sym, ap, ◌∙◌}
use Prim.Native.Nat.{◌+◌}
use native.Mathlib.Omega.{arith}
use Rattle.medium.proofs.Refusals.{not_done, passed}
use Rattle.objects.specs.Info.{span_of}
use Rattle.objects.specs.Listing.{listing}
use Rattle.objects.proofs.Answers.{gate_on, gate_stop}
use Rattle.objects.proofs.Listing.{next_moves, next_found, header_some}
use Rattle.blocks.specs.Scan.{calculate_freeable_space}
use Rattle.blocks.proofs.Scans.{no_object, sum_more, sum_stopped, sum-broken, freed_most}
use Rattle.blocks.proofs.scan.calculate_freeable_space.Goals as goal

pub returns-in_err-check : goal.returns-in_err-check
unfolding calculate_freeable_space
returns-in_err-check c = rw (passed _ _ c.from_residual.ensures) (sym (gate_stop _ _ _ c.in_err-check.ensures (not_done _)))

pub loop-o-init : goal.loop-o-init
unfolding calculate_freeable_space listing
loop-o-init c = (omega arith, omega arith, rw c.new-i.ensures (gate_on _ _ _ c.in_ok-check.ensures refl))

pub returns-in_err-o : goal.returns-in_err-o
returns-in_err-o c = rw (passed _ _ c.from_residual-in_err-o.ensures) (sym (c.loop-o.invariant.2 ∙ sum-broken _ _ (sym c.in_ok-check.ensures) _ _ _ c.in_err-o.ensures))

pub loop-o-smaller : goal.loop-o-smaller
loop-o-smaller c = let v = next_moves _ _ _ _ _ (sym (rw c.in-Object.is at c.in_ok-o.ensures)) in omega (arith, v.forward, v.within, header_some c.args.g.granularity c.args.g.s)

pub loop-o-preserved : goal.loop-o-preserved
loop-o-preserved c =
    let v = next_found _ _ _ _ _ (sym (rw c.in-Object.is at c.in_ok-o.ensures)) in
    let o : c.in-Object.j.location.offset ≡ c.loop-o.i.location.offset + span_of c.args.g.granularity c.args.g.s c.in-Object.o = ap (λ (x : ObjectIterator). x.location.offset) v.then in (
      omega (arith, o, c.loop-o.invariant.0, c.freeable-deleted.ensures.value, freed_most c.args.g.granularity c.args.g.s c.in-Object.o),
      omega arith,
      c.loop-o.invariant.2 ∙ sum_more _ _ (sym c.in_ok-check.ensures) _ _ _ _ (rw c.in-Object.is at c.in_ok-o.ensures) ∙ rw c.freeable-deleted.ensures.value,
    )

pub returns : goal.returns
returns c = let n = no_object _ c.in_default.not-Object in c.sum.ensures ∙ sym (c.loop-o.invariant.2 ∙ sum_stopped _ _ (sym c.in_ok-check.ensures) _ _ _ n.stops (sym n.is ∙ c.in_ok-o.ensures))
