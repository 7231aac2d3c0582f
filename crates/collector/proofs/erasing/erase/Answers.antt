use mathlib.Core.Path.{sym, ◌∙◌}
use Rattle.collector.proofs.Findings.{erase_known, erase_not}
use Rattle.collector.proofs.erasing.erase.Goals as goal

pub returns-then-not-is_known : goal.returns-then-not-is_known
returns-then-not-is_known c = rw c.beside.ensures (sym (erase_not _ _ _ _ _ (sym c.is_known.ensures ∙ c.if-not-is_known.true)))

pub returns : goal.returns
returns c = c.renew.ensures ∙ sym (erase_known _ _ _ _ _ (sym c.is_known.ensures ∙ c.if-not-is_known.false))
