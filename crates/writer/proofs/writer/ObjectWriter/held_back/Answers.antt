use Rattle.writer.proofs.Laws.{tail_pasted}
use Rattle.writer.proofs.writer.ObjectWriter.held_back.Goals as goal

pub returns : goal.returns
returns c = rw (c.pasted.ensures, tail_pasted _ c.requires.1)
