use mathlib.Core.Path.{◌≡◌, sym, ◌∙◌}
use Rattle.medium.proofs.Refusals.{passed, kept_err, kept_ok}
use Rattle.blocks.proofs.Formats.{plan_refused, plan_made}
use Rattle.collector.proofs.Findings.{worn_refused, worn_planned}
use Rattle.collector.proofs.erasing.worn_out.Goals as goal

pub returns-in_err-beside : goal.returns-in_err-beside
returns-in_err-beside c =
    let k = kept_err _ _ _ c.in_err-beside.ensures in
    let z : c.in_err-beside.field-0.0.fuse ≡ c.args.f = k.fuse in
    rw (passed _ _ c.from_residual.ensures, z) (sym (worn_refused _ _ _ _ _ (plan_refused _ _ k.refused ∙ c.plan_format.ensures)))

pub returns : goal.returns
returns c =
    let p = plan_made _ _ (kept_ok _ _ _ c.in_ok-beside.ensures) in
    rw c.beside-2.ensures (sym (worn_planned _ _ _ _ p.what (sym p.is ∙ c.plan_format.ensures)))
