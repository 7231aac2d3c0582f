use mathlib.Core.Path.{sym}
use borrow.Author.Rules.{rules}
use Rattle.blocks.proofs.Scans.{written_at, written_none}
use Rattle.blocks.proofs.scan.last_written.Goals as goal

pub returns-in-Some : goal.returns-in-Some
returns-in-Some c = sym (written_at c.args.part.now c.in-Some.i (search rules) (search rules) (search rules))

pub returns-in-None : goal.returns-in-None
returns-in-None c = sym (written_none c.args.part.now (search rules))
