use mathlib.Core.Path.{sym}
use Rattle.medium.proofs.Runs.{run_ask}
use Rattle.objects.proofs.States.{rank_state}
use Rattle.writer.proofs.Laws.{deleting_none}
use Rattle.writer.proofs.writer.ObjectWriter.deleting.Goals as goal

pub returns-in-Free : goal.returns-in-Free
returns-in-Free c = rw (← rank_state c.args.self.object.state, ← c.state.ensures, deleting_none _ _ _ c.in-Free.is) (sym (run_ask _ _ _))
