-- `medium::reach` meets its contract.
use mathlib.Core.Path.{sym, ◌∙◌}
use mathlib.Core.Bool.{and-false}
use Prim.Native.Nat.{◌+◌, ◌<◌, ◌≤◌}
use native.Mathlib.Omega.{arith}
use borrow.Author.Tests.{le-ltb, lt-ltb, le-leb, lt-leb}
use Rattle.medium.specs.Medium.{readable}
use Rattle.medium.proofs.Checks.{admit_pass, admit_stop}
use mathlib.Core.Path.{refl}
use Rattle.medium.proofs.Refusals.{not_done, passed}
use Rattle.medium.proofs.reach.Goals as goal

pub returns-in_err-check : goal.returns-in_err-check
unfolding readable
returns-in_err-check c = rw (passed _ _ c.from_residual.ensures) (admit_stop _ _ _ _ c.in_err-check.ensures (not_done _))

pub returns-then-g-block : goal.returns-then-g-block
unfolding readable
returns-then-g-block c = sym (admit_pass _ _ _ _ c.in_ok-check.ensures refl ∙ simp (le-ltb _ _ c.if-g-block.true))

pub returns-then-size-offset : goal.returns-then-size-offset
unfolding readable
returns-then-size-offset c =
    let h : c.args.g.size < c.args.offset + c.args.n = omega arith in
    sym (admit_pass _ _ _ _ c.in_ok-check.ensures refl ∙ simp (lt-leb _ _ h, and-false))

pub returns-then-size-offset-2 : goal.returns-then-size-offset-2
unfolding readable
returns-then-size-offset-2 c =
    let h : c.args.g.size < c.args.offset + c.args.n = omega arith in
    sym (admit_pass _ _ _ _ c.in_ok-check.ensures refl ∙ simp (lt-leb _ _ h, and-false))

pub returns : goal.returns
unfolding readable
returns c =
    let h : c.args.offset + c.args.n ≤ c.args.g.size = omega arith in
    sym (admit_pass _ _ _ _ c.in_ok-check.ensures refl ∙ simp (lt-ltb _ _ c.if-g-block.false, le-leb _ _ h))
