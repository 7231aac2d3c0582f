use mathlib.Core.Path.{◌≡◌, sym, ap, ◌∙◌}
use Rattle.medium.proofs.Refusals.{passed, kept_ok, kept_err}
use Rattle.medium.proofs.Runs.{run_ask}
use Rattle.blocks.specs.Format.{plan_answer}
use Rattle.blocks.proofs.Formats.{format_on, format_stop, plan_refused}
use Rattle.blocks.proofs.format.format_block.Goals as goal

pub returns-in_err-p : goal.returns-in_err-p
returns-in_err-p c =
    let k = kept_err _ _ _ c.in_err-p.ensures in
    let z : c.in_err-p.field-0.0.fuse ≡ c.args.f = k.fuse in
    rw (passed _ _ c.from_residual.ensures, z) (sym (format_stop _ _ _ _ _ (plan_refused _ _ k.refused ∙ c.plan_format.ensures)))

pub returns-in-Keep : goal.returns-in-Keep
returns-in-Keep c = sym (format_on _ _ _ _ _ (sym (ap plan_answer (kept_ok _ _ _ (rw c.in-Keep.is at c.in_ok-p.ensures))) ∙ c.plan_format.ensures) ∙ run_ask _ _ _)

pub returns-in-Label : goal.returns-in-Label
returns-in-Label c = c.label.ensures ∙ sym (format_on _ _ _ _ _ (sym (ap plan_answer (kept_ok _ _ _ (rw c.in-Label.is at c.in_ok-p.ensures))) ∙ c.plan_format.ensures))

pub returns-in-Renew : goal.returns-in-Renew
returns-in-Renew c = c.renew.ensures ∙ sym (format_on _ _ _ _ _ (sym (ap plan_answer (kept_ok _ _ _ (rw c.in-Renew.is at c.in_ok-p.ensures))) ∙ c.plan_format.ensures))
