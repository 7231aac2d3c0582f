use mathlib.Core.Path.{refl, sym, ◌∙◌}
use Rattle.medium.proofs.Refusals.{passed}
use Rattle.objects.proofs.Tested.{asked_on, asked_stop}
use native.Mathlib.Omega.{arith}
use Rattle.medium.proofs.Checks.{fine_of_check}
use Rattle.objects.proofs.Places.{header_small}
use Rattle.collector.proofs.Findings.{full_skip, full_look, erase_kept}
use Rattle.collector.proofs.erase_full_finished_block.erase_full_finished_block.Goals as goal

pub overflow_sub-g : goal.overflow_sub-g
overflow_sub-g c = let h = fine_of_check _ _ _ refl c.requires.image_value in omega (arith, h.sound.least, h.sound.s_most, c.object_header.ensures, header_small c.args.g.granularity c.args.g.s)

pub returns-then-g-object_header : goal.returns-then-g-object_header
returns-then-g-object_header c = sym (full_skip _ _ _ _ _ _ (rw (← c.object_header.ensures) c.if-g-object_header.true))

pub returns-in_err-found : goal.returns-in_err-found
returns-in_err-found c = rw (passed _ _ c.from_residual.ensures) (sym (full_look _ _ _ _ _ _ (rw (← c.object_header.ensures) c.if-g-object_header.false) ∙ asked_stop _ _ _ _ _ c.find_deleted.ensures c.in_err-found.ensures))

pub returns-then-not-found : goal.returns-then-not-found
returns-then-not-found c = sym (full_look _ _ _ _ _ _ (rw (← c.object_header.ensures) c.if-g-object_header.false) ∙ asked_on _ _ _ _ _ c.find_deleted.ensures c.in_ok-found.ensures ∙ rw c.if-not-found.true (erase_kept _ _ _ _ _))

pub returns : goal.returns
returns c = c.erase.ensures ∙ sym (full_look _ _ _ _ _ _ (rw (← c.object_header.ensures) c.if-g-object_header.false) ∙ asked_on _ _ _ _ _ c.find_deleted.ensures c.in_ok-found.ensures ∙ rw c.if-not-found.false)
