use mathlib.Core.Path.{sym, ◌∙◌}
use borrow.Author.Tests.{eq-eqb, ne_eqb}
use Rattle.medium.proofs.Refusals.{passed}
use Rattle.medium.proofs.Runs.{on_with, stop_with, run_ask}
use Rattle.collector.specs.Passes.{repair_by}
use Rattle.collector.proofs.delete_invalid_objects_in_block.repair_by.Goals as goal

pub returns-then-m-n : goal.returns-then-m-n
unfolding repair_by
returns-then-m-n c = rw (← c.in-Some.ensures, eq-eqb _ _ c.if-m-n.true) (sym (run_ask _ _ _))

pub returns-in-Some : goal.returns-in-Some
unfolding repair_by
returns-in-Some c = rw (← c.in-Some.ensures, ne_eqb _ _ c.if-m-n.false) c.delete_object.ensures

pub returns-in_err-sized : goal.returns-in_err-sized
unfolding repair_by
returns-in_err-sized c = rw (← c.in_default.ensures, passed _ _ c.from_residual.ensures) (sym (stop_with _ _ _ _ _ _ c.set_payload_size.ensures c.in_err-sized.was))

pub returns : goal.returns
unfolding repair_by
returns c = rw (← c.in_default.ensures) (c.delete_object-2.ensures ∙ sym (on_with _ _ _ _ _ _ c.set_payload_size.ensures c.in_ok-sized.was))
