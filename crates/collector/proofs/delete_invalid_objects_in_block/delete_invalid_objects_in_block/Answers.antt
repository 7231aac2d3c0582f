use mathlib.Core.Path.{sym, ◌∙◌}
use Rattle.medium.specs.Beside.{beside}
use Rattle.medium.proofs.Runs.{run_ask_in}
use Rattle.collector.proofs.Repairs.{delete_by_lem}
use Rattle.collector.proofs.delete_invalid_objects_in_block.delete_invalid_objects_in_block.Goals as goal

pub returns-in-Unknown : goal.returns-in-Unknown
returns-in-Unknown c = rw c.beside.ensures (sym (delete_by_lem _ _ _ _ _ _ c.in-Unknown.is ∙ run_ask_in beside _ _ _))

pub returns-in-Empty : goal.returns-in-Empty
returns-in-Empty c = sym (delete_by_lem _ _ _ _ _ _ c.in-Empty.is ∙ run_ask_in beside _ _ _)

pub returns-in-Known : goal.returns-in-Known
returns-in-Known c = c.delete_from.ensures ∙ sym (delete_by_lem _ _ _ _ _ _ c.in-Known.is)
