use mathlib.Core.Path.{sym, ◌∙◌}
use Rattle.medium.proofs.Refusals.{passed}
use Rattle.blocks.specs.Scan.{scan_block}
use Rattle.blocks.proofs.Headers.{check_of_header}
use Rattle.blocks.proofs.Scans.{scan_by_lem}
use Rattle.blocks.proofs.scan.scan_block.Goals as goal

pub returns-in_err-h : goal.returns-in_err-h
unfolding scan_block
returns-in_err-h c = rw (passed _ _ c.from_residual.ensures, ← c.in_err-h.ensures)

pub list-requires : goal.list-requires
list-requires c = check_of_header _ _ _ _ (sym c.in_ok-h.ensures)

pub returns-in-Empty : goal.returns-in-Empty
returns-in-Empty c = sym (scan_by_lem _ _ _ _ _ (sym c.in_ok-h.ensures) c.in-Empty.is)

pub returns-in-Unknown : goal.returns-in-Unknown
returns-in-Unknown c = c.scan_unknown.ensures ∙ sym (scan_by_lem _ _ _ _ _ (sym c.in_ok-h.ensures) c.in-Unknown.is)

pub returns-in-Known : goal.returns-in-Known
returns-in-Known c = c.list.ensures ∙ sym (scan_by_lem _ _ _ _ _ (sym c.in_ok-h.ensures) c.in-Known.is)
