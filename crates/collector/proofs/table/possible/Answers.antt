use mathlib.Core.Path.{refl, ◌∙◌}
use Prim.Native.Nat.{◌<◌, ◌≤◌}
use native.Mathlib.Omega.{arith}
use Rattle.medium.proofs.Refusals.{passed}
use Rattle.collector.proofs.Tables.{possible_more, possible_stop, possible_end}
use Rattle.collector.proofs.table.possible.Goals as goal

pub returns-in_err-record_at : goal.returns-in_err-record_at
returns-in_err-record_at c =
    let h : c.loop-b.b < c.args.count = omega arith in
    rw (passed _ _ c.from_residual.ensures, c.loop-b.invariant, possible_stop _ _ _ h _ c.in_err-record_at.ensures _ refl)

pub loop-b-preserved : goal.loop-b-preserved
loop-b-preserved c = c.loop-b.invariant ∙ possible_more _ _ _ (omega arith) _ c.in_ok-record_at.ensures _ refl

pub returns : goal.returns
returns c =
    let h : c.args.count ≤ c.loop-b.b = omega arith in
    rw (c.loop-b.invariant, possible_end _ _ _ h)
