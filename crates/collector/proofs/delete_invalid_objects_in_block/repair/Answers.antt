use mathlib.Core.Path.{refl, sym, ◌∙◌}
use native.Mathlib.Omega.{arith}
use borrow.Author.Tests.{lt-ltb, le-ltb}
use Rattle.medium.proofs.Runs.{test_on, test_stop}
use Rattle.collector.specs.Passes.{repairing}
use Rattle.collector.proofs.delete_invalid_objects_in_block.repair.Goals as goal

pub returns-then-used-from : goal.returns-then-used-from
unfolding repairing
returns-then-used-from c = rw c.beside.ensures (sym (test_stop _ _ _ _ 9 (rw (← c.object_header.ensures, lt-ltb _ _ c.if-used-from.true)) (λ q. absurd (omega arith))))

pub returns : goal.returns
unfolding repairing
returns c = (rw c.object_header.ensures at c.repair_by.ensures) ∙ sym (test_on _ _ _ _ 0 (rw (← c.object_header.ensures, le-ltb _ _ c.if-used-from.false)) refl)
