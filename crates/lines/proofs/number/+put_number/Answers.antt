-- The digits before the last are put by the call on n / 10; the last stands behind them.
use native.Mathlib.Omega.{arith}
use mathlib.Core.List.{append_assoc}
use mathlib.Core.Path.{ap}
use lib.ListN.{length, length-append}
use Rattle.lines.specs.Digits.{digits}
use Prim.Native.Nat.{◌/◌}
use Rattle.lines.proofs.Digits.{one, split, one_long, split_long}
use Rattle.lines.proofs.number.+put_number.Goals as goal

pub push-requires : goal.push-requires
push-requires t c = omega (arith, c.requires, one_long c.args.n c.if-n-lt10.true)

pub returns-then-n-lt10 : goal.returns-then-n-lt10
returns-then-n-lt10 t c = rw (c.push.ensures, one c.args.n c.if-n-lt10.true)

pub put_number-requires : goal.put_number-requires
put_number-requires t c = (omega (arith, c.decreases, c.if-n-lt10.false), omega (arith, c.requires, split_long c.args.n c.if-n-lt10.false c.ranges.n.fits))

pub push-requires-2 : goal.push-requires-2
push-requires-2 t c = omega (arith, c.requires, ap length c.put_number.ensures, length-append c.args.line.now (digits (c.args.n / 10)), split_long c.args.n c.if-n-lt10.false c.ranges.n.fits)

pub returns : goal.returns
returns t c = rw (c.push-2.ensures, c.put_number.ensures, split c.args.n c.if-n-lt10.false c.ranges.n.fits, append_assoc)
