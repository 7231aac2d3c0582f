use mathlib.Core.Path.{refl}
use native.Mathlib.Omega.{arith}
use lib.ListN.{length-take, length-drop}
use Rattle.medium.proofs.Checks.{fit_sound}
use Rattle.objects.proofs.location.ObjectLocation.from_bytes.Goals as goal

pub number-block-requires : goal.number-block-requires
number-block-requires c = let v = fit_sound _ _ c.in_ok-fit.ensures refl in simp length-take (omega (arith, v.c_most))

pub number-offset-requires : goal.number-offset-requires
number-offset-requires c = let v = fit_sound _ _ c.in_ok-fit.ensures refl in simp (length-take, length-drop) (omega (arith, v.s_most, c.if-raw-c.false))
