use mathlib.Core.Path.{refl}
use native.Mathlib.Omega.{arith}
use Rattle.medium.proofs.Checks.{fine_of_check}
use Rattle.sweep.proofs.check.is_whole.Goals as goal

pub nonzero_rem-result : goal.nonzero_rem-result
nonzero_rem-result c = omega (arith, (fine_of_check _ _ _ refl c.requires).sound.s_least)
