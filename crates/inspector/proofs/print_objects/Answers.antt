use mathlib.Core.Path.{sym}
use native.Mathlib.Omega.{arith}
use Rattle.objects.proofs.Listing.{next_moves, header_some}
use Rattle.inspector.proofs.print_objects.Goals as goal

pub loop-h-smaller : goal.loop-h-smaller
loop-h-smaller c =
    let v = next_moves _ _ _ _ _ (sym (rw (c.in-Ok-Object.is, c.in-Ok-Object.field-0-is) at c.next.ensures)) in
    omega (arith, v.forward, v.within, header_some c.args.g.granularity c.args.g.s)
