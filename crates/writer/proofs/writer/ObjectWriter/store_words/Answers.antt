use mathlib.Core.Path.{sym, ◌∙◌}
use native.Mathlib.Omega.{arith}
use Rattle.medium.proofs.Refusals.{passed}
use Rattle.medium.proofs.Runs.{on, stop, run_ask}
use Rattle.writer.specs.Steps.{store_words}
use Rattle.writer.proofs.Laws.{rest_all}
use Rattle.writer.proofs.writer.ObjectWriter.store_words.Goals as goal

pub returns-in_err-fuse : goal.returns-in_err-fuse
unfolding store_words
returns-in_err-fuse c = rw (passed _ _ c.from_residual.ensures) (record { image_after = sym (stop _ _ _ _ _ _ tt c.args.f (rw (c.data_at.ensures.value, c.width.ensures) at c.write.ensures) c.in_err-fuse.was); cursor_bound = tt })

pub returns : goal.returns
unfolding store_words
returns c = record { image_after = rw (c.held_back.ensures, rest_all _ _, c.width.ensures) (sym (on _ _ _ _ _ _ tt _ (rw (c.data_at.ensures.value, c.width.ensures) at c.write.ensures) c.in_ok-fuse.was ∙ run_ask _ _ _)); cursor_bound = rw c.held_back.ensures (omega arith) }
