use mathlib.Core.Path.{sym, ◌∙◌}
use Prim.Native.Nat.{◌/◌}
use lib.ListN.{length}
use native.Mathlib.Omega.{arith}
use Rattle.sweep.proofs.MetKeys.{find-met, find-on}
use Rattle.sweep.proofs.slots.find.Goals as goal

pub returns-then-words-at : goal.returns-then-words-at
returns-then-words-at c = sym (c.loop-i.invariant.0 ∙ find-met c.args.words.now (length c.args.words.now / 3) c.loop-i.i c.args.key (omega arith) c.if-words-at-eq0.false c.if-words-at.true)

pub loop-i-preserved : goal.loop-i-preserved
loop-i-preserved c = (c.loop-i.invariant.0 ∙ find-on c.args.words.now (length c.args.words.now / 3) c.loop-i.i c.args.key (omega arith) c.if-words-at-eq0.false c.if-words-at.false, omega arith)
