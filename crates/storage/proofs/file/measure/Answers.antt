use mathlib.Core.Path.{sym, ◌∙◌}
use native.Mathlib.Omega.{arith}
use Rattle.storage.proofs.Pieces.{measure-more, measure_full}
use Rattle.storage.proofs.file.measure.Goals as goal

pub loop-taken-preserved : goal.loop-taken-preserved
loop-taken-preserved c =
    let f = rw c.in-Some.is at c.in_ok-piece.ensures.fits in
    (omega (arith, f.1, c.loop-taken-test.true), c.loop-taken.invariant.1 ∙ measure-more _ _ _ _ _ _ _ (rw c.in-Some.is at c.in_ok-piece.ensures.result_value) f.0)

pub returns : goal.returns
returns c = sym (c.loop-taken.invariant.1 ∙ measure_full _ _ _ _ _ _ c.loop-taken-test.false)
