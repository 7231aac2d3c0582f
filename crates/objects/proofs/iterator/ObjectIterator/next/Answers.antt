use mathlib.Core.Path.{refl}
use native.Mathlib.Omega.{arith}
use Rattle.medium.proofs.Checks.{fine_of_check}
use Rattle.objects.proofs.Reading.{span_small}
use Rattle.objects.proofs.iterator.ObjectIterator.next.Goals as goal

pub past-requires : goal.past-requires
past-requires c =
    let v = fine_of_check _ _ _ c.in_ok-check.ensures refl in
    let p = span_small c.args.g.granularity c.args.g.s c.in-Some.header in
    let q = rw c.in-Some.is at c.in_ok-header.ensures.small_info in
    omega (arith, v.sound.small, c.if-g-at.false, c.span.ensures, p, q)
