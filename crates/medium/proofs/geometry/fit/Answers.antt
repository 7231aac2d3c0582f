use mathlib.Core.Bool.{and-false}
use native.Mathlib.Omega.{arith}
use borrow.Author.Tests.{lt-leb, ne_eqb}
use Rattle.medium.specs.Geometry.{geometry_ok, fit_of}
use Rattle.medium.proofs.Checks.{geometry_yes}
use Rattle.medium.proofs.geometry.fit.Goals as goal

pub returns-then-size-lt64 : goal.returns-then-size-lt64
unfolding geometry_ok fit_of
returns-then-size-lt64 c = simp (lt-leb _ _ c.if-size-lt64.true)

pub returns-then-size-gt65536 : goal.returns-then-size-gt65536
unfolding geometry_ok fit_of
returns-then-size-gt65536 c = simp (lt-leb _ _ c.if-size-gt65536.true, and-false)

pub returns-then-size-ne0 : goal.returns-then-size-ne0
unfolding geometry_ok fit_of
returns-then-size-ne0 c = simp (ne_eqb _ _ c.if-size-ne0.true, and-false)

pub returns-then-limit-size : goal.returns-then-limit-size
unfolding geometry_ok fit_of
returns-then-limit-size c = simp (lt-leb _ _ (rw c.limit.ensures at c.if-limit-size.true), and-false)

pub returns-then-count-lt1 : goal.returns-then-count-lt1
unfolding geometry_ok fit_of
returns-then-count-lt1 c = simp (lt-leb _ _ c.if-count-lt1.true, and-false)

pub returns-then-limit-count : goal.returns-then-limit-count
unfolding geometry_ok fit_of
returns-then-limit-count c = simp (lt-leb _ _ (rw c.limit-2.ensures at c.if-limit-count.true), and-false)

pub returns-then-total-gt16777216 : goal.returns-then-total-gt16777216
unfolding geometry_ok fit_of
returns-then-total-gt16777216 c = simp (lt-leb _ _ c.if-total-gt16777216.true, and-false)

pub returns-then-most_strict-g : goal.returns-then-most_strict-g
unfolding geometry_ok fit_of
returns-then-most_strict-g c = simp (lt-leb _ _ (rw c.most_strict.ensures at c.if-most_strict-g.true), and-false)

pub returns : goal.returns
unfolding fit_of
returns c = simp (geometry_yes c.args.g (omega arith) (omega arith) (omega arith) (omega arith) (omega arith) (omega arith) (omega arith) (rw c.most_strict.ensures at c.if-most_strict-g.false))
