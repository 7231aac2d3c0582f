use mathlib.Core.Path.{sym, ◌∙◌}
use native.Mathlib.Nat.{add-zero}
use native.Mathlib.Omega.{arith}
use Rattle.medium.proofs.Refusals.{passed}
use Rattle.storage.specs.File.{file_size}
use Rattle.storage.proofs.Pieces.{step_of, step_small, metadata_big, size-refused, size-end, size-stop, size-more}
use Rattle.storage.proofs.file.size.Goals as goal

pub returns-in_err-rest : goal.returns-in_err-rest
unfolding file_size
returns-in_err-rest c = rw (passed _ _ c.from_residual.ensures, ← c.in_err-rest.ensures)

pub returns-in_err-l : goal.returns-in_err-l
unfolding file_size
returns-in_err-l c = rw (passed _ _ c.from_residual-in_err-l.ensures, ← c.in_ok-rest.ensures) (sym (c.loop-l.invariant.1 ∙ rw (size-refused _ _ _ (metadata_big _ _ _ _ c.in_ok-rest.ensures) _ c.in_err-l.ensures)))

pub returns-in_err-r : goal.returns-in_err-r
unfolding file_size
returns-in_err-r c = rw (passed _ _ c.from_residual-in_err-r.ensures, ← c.in_ok-rest.ensures) (sym (c.loop-l.invariant.1 ∙ rw (size-stop _ _ _ (metadata_big _ _ _ _ c.in_ok-rest.ensures) _ _ (rw c.in-Some.is at c.in_ok-l.ensures) _ c.in_err-r.ensures)))

pub overflow_add-total : goal.overflow_add-total
overflow_add-total c = let s = step_of _ _ _ _ _ (sym (rw c.in-Some.is at c.in_ok-l.ensures)) in omega (arith, c.loop-l.invariant.0, c.payload-total.ensures.upper_bound, s.small, step_small _ _ _ _ s)

pub loop-l-smaller : goal.loop-l-smaller
loop-l-smaller c = let s = step_of _ _ _ _ _ (sym (rw c.in-Some.is at c.in_ok-l.ensures)) in omega (arith, s.small, s.forward)

pub loop-l-preserved : goal.loop-l-preserved
loop-l-preserved c =
    let s = step_of _ _ _ _ _ (sym (rw c.in-Some.is at c.in_ok-l.ensures)) in
    (omega (arith, c.loop-l.invariant.0, c.payload-total.ensures.upper_bound, s.forward), c.loop-l.invariant.1 ∙ size-more _ _ _ (metadata_big _ _ _ _ c.in_ok-rest.ensures) _ _ (rw c.in-Some.is at c.in_ok-l.ensures) _ _ c.in_ok-r.ensures ∙ rw c.payload-total.ensures.value)

pub returns : goal.returns
unfolding file_size
returns c = rw (← c.in_ok-rest.ensures) (sym (c.loop-l.invariant.1 ∙ rw (size-end _ _ _ (metadata_big _ _ _ _ c.in_ok-rest.ensures) (rw c.in_default.is at c.in_ok-l.ensures), add-zero c.loop-l.total)))
