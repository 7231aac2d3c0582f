use mathlib.Core.Path.{refl}
use native.Mathlib.Omega.{arith}
use Rattle.medium.proofs.Checks.{fit_sound}
use Rattle.cface.proofs.filled.location.Goals as goal

pub first-requires : goal.first-requires
first-requires c = let v = fit_sound _ _ c.in_default.ensures refl in omega (arith, v.s_most, v.c_most)
