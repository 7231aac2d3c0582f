use mathlib.Core.Path.{ap}
use mathlib.Core.List.{[], ◌∷◌}
use native.Mathlib.Omega.{arith}
use lib.ListN.{length, length-append}
use Rattle.lines.specs.Digits.{digits}
use Rattle.lines.proofs.Digits.{short}
use Rattle.lines.proofs.number.put_field.Goals as goal

pub put_number-requires : goal.put_number-requires
put_number-requires c = omega (arith, c.requires, ap length c.push.ensures, length-append c.args.line.now (32 ∷ []), short c.args.n)

pub returns-clause-upper_bound : goal.returns-clause-upper_bound
returns-clause-upper_bound c = omega (arith, ap length c.put_number.ensures, length-append c.push.new.self (digits c.args.n), ap length c.push.ensures, length-append c.args.line.now (32 ∷ []), short c.args.n)
