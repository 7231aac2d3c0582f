use mathlib.Core.Path.{sym, ◌∙◌}
use Rattle.medium.proofs.Refusals.{passed}
use Rattle.objects.proofs.Tested.{asked_on, asked_stop}
use Rattle.collector.proofs.Findings.{invalid_skip, invalid_look, erase_kept}
use Rattle.collector.proofs.erase_invalid_finished_block.erase_invalid_finished_block.Goals as goal

pub returns-then-info : goal.returns-then-info
returns-then-info c = sym (invalid_skip _ _ _ _ _ _ c.if-info.true)

pub returns-in_err-found : goal.returns-in_err-found
returns-in_err-found c = rw (passed _ _ c.from_residual.ensures) (sym (invalid_look _ _ _ _ _ _ c.if-info.false ∙ asked_stop _ _ _ _ _ c.find_unfinished.ensures c.in_err-found.ensures))

pub returns-then-not-found : goal.returns-then-not-found
returns-then-not-found c = sym (invalid_look _ _ _ _ _ _ c.if-info.false ∙ asked_on _ _ _ _ _ c.find_unfinished.ensures c.in_ok-found.ensures ∙ rw c.if-not-found.true (erase_kept _ _ _ _ _))

pub returns : goal.returns
returns c = c.erase.ensures ∙ sym (invalid_look _ _ _ _ _ _ c.if-info.false ∙ asked_on _ _ _ _ _ c.find_unfinished.ensures c.in_ok-found.ensures ∙ rw c.if-not-found.false)
