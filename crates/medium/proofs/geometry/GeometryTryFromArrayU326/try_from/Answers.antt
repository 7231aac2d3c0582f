use mathlib.Core.Path.{sym, ◌∙◌}
use native.Mathlib.Omega.{arith}
use Rattle.medium.specs.Geometry.{geometry_of}
use Rattle.medium.proofs.Checks.{fields_are}
use Rattle.medium.proofs.Refusals.{passed}
use Rattle.medium.proofs.geometry.GeometryTryFromArrayU326.try_from.Goals as goal

pub returns-then-not-fields_hold : goal.returns-then-not-fields_hold
unfolding geometry_of
returns-then-not-fields_hold c = rw (← c.fields_hold.ensures, c.if-not-fields_hold.true)

pub overflow_cast-n : goal.overflow_cast-n
overflow_cast-n c = omega (arith, fields_are c.args.n (sym c.fields_hold.ensures ∙ c.if-not-fields_hold.false))

pub returns-in_err-granularity : goal.returns-in_err-granularity
unfolding geometry_of
returns-in_err-granularity c = rw (passed _ _ c.from_residual.ensures, ← c.fields_hold.ensures, c.if-not-fields_hold.false, ← c.in_err-granularity.ensures)

pub overflow_cast-result : goal.overflow_cast-result
overflow_cast-result c = omega (arith, fields_are c.args.n (sym c.fields_hold.ensures ∙ c.if-not-fields_hold.false))

pub overflow_cast-result-2 : goal.overflow_cast-result-2
overflow_cast-result-2 c = omega (arith, fields_are c.args.n (sym c.fields_hold.ensures ∙ c.if-not-fields_hold.false))

pub overflow_cast-result-3 : goal.overflow_cast-result-3
overflow_cast-result-3 c = omega (arith, fields_are c.args.n (sym c.fields_hold.ensures ∙ c.if-not-fields_hold.false))

pub returns : goal.returns
unfolding geometry_of
returns c = rw (← c.fields_hold.ensures, c.if-not-fields_hold.false, ← c.in_ok-granularity.ensures)
