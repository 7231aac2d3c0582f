use mathlib.Core.Path.{◌≡◌, refl}
use lib.Dec.{eqb}
use denote.Enum.Bare.{sameb}
use Rattle.medium.proofs.Checks.{admit_pass, admit_stop}
use Rattle.medium.proofs.Refusals.{not_done, passed}
use Rattle.objects.specs.contracts.state.ObjectState.{the_type}
use Rattle.objects.specs.declared.state.ObjectState.{ObjectState}
use Rattle.objects.specs.declared.state.ObjectState.TheVariants.{Free, Allocated, Finalized, Deleted}
use Rattle.objects.specs.Types.{rank_in}
use Rattle.objects.specs.Header.{stay_of}
use Rattle.objects.proofs.header.ObjectHeader.stay.Goals as goal

is_free : (s : ObjectState) → eqb (rank_in s) 0 ≡ sameb the_type s Free
is_free Free = refl
is_free Allocated = refl
is_free Finalized = refl
is_free Deleted = refl

pub returns-in_err-check : goal.returns-in_err-check
unfolding stay_of
returns-in_err-check c = rw (passed _ _ c.from_residual.ensures) (admit_stop _ _ _ _ c.in_err-check.ensures (not_done _))

pub returns-then-eq : goal.returns-then-eq
unfolding stay_of
returns-then-eq c = rw (admit_pass _ _ _ _ c.in_ok-check.ensures refl, is_free c.args.to, ← c.if-eq.ensures)

pub returns-then-not-is : goal.returns-then-not-is
unfolding stay_of
returns-then-not-is c = rw (admit_pass _ _ _ _ c.in_ok-check.ensures refl, is_free c.args.to, ← c.if-eq.ensures, ← c.if-not-is.ensures)

pub returns : goal.returns
unfolding stay_of
returns c = rw (admit_pass _ _ _ _ c.in_ok-check.ensures refl, is_free c.args.to, ← c.if-eq.ensures, ← c.if-not-is.ensures)
