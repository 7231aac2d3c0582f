use mathlib.Core.Path.{refl, ◌∙◌}
use Rattle.medium.proofs.Refusals.{not_done, passed}
use Rattle.collector.proofs.Tables.{collect_bad, collect_room, collect_rows}
use Rattle.collector.proofs.table.check.Goals as goal

pub returns-in_err-check : goal.returns-in_err-check
returns-in_err-check c = rw (passed _ _ c.from_residual.ensures) (collect_bad _ _ _ _ c.in_err-check.ensures (not_done _))

pub returns-then-g-table : goal.returns-then-g-table
returns-then-g-table c = collect_room _ _ _ _ c.in_ok-check.ensures refl c.if-g-table.true

pub returns : goal.returns
returns c = c.possible.ensures ∙ collect_rows _ _ _ _ c.in_ok-check.ensures refl c.if-g-table.false
