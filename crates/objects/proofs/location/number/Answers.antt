use mathlib.Core.Path.{◌≡◌}
use Prim.Native.Nat.{◌-◌}
use native.Mathlib.Omega.{arith}
use lib.ListN.{length}
use Rattle.std.proofs.lemmas.List.{length-reverse}
use Rattle.std.proofs.lemmas.Iterator.Adapters.{YieldsList-from_rev_slice}
use Rattle.std.proofs.lemmas.Iterator.Consumers.{YieldsList-end}
use Rattle.objects.proofs.Numbers.{number_small}
use Rattle.objects.proofs.location.number.Goals as goal

pub overflow_mul-n : goal.overflow_mul-n
overflow_mul-n c =
    let b = number_small c.args.raw.now (length c.args.raw.now - length c.loop-byte.yielded) 4 (λ j. (c.type_inv.raw j).fits) c.requires in
    omega (arith, c.loop-byte.invariant.value)

pub overflow_add-n : goal.overflow_add-n
overflow_add-n c =
    let b = number_small c.args.raw.now (length c.args.raw.now - length c.loop-byte.yielded) 4 (λ j. (c.type_inv.raw j).fits) c.requires in
    omega (arith, c.loop-byte.invariant.value)

pub returns : goal.returns
returns c =
    let t = YieldsList-end (YieldsList-from_rev_slice c.args.raw.now cc) c.loop-byte.yielded _ c.loop-byte.yielded_by _ _ c.in-None.is c.next.ensures.steps in
    let e : length c.args.raw.now - length c.loop-byte.yielded ≡ 0 = omega (arith, t.1, length-reverse c.args.raw.now) in
    let v = rw e at c.loop-byte.invariant.value in
    record { value = v; upper_bound = rw v (number_small c.args.raw.now 0 4 (λ j. (c.type_inv.raw j).fits) c.requires); upper_bound_2 = λ h. rw v (number_small c.args.raw.now 0 3 (λ j. (c.type_inv.raw j).fits) h) }
