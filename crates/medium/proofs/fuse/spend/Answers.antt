-- `medium::fuse::spend` meets its contract.
use borrow.Author.Tests.{le-leb, lt-leb}
use Rattle.medium.specs.Fuse.{spend_of}
use Rattle.medium.proofs.fuse.spend.Goals as goal

pub returns-in_default : goal.returns-in_default
unfolding spend_of
returns-in_default c = rw c.in_default.is

pub returns-then-n-k : goal.returns-then-n-k
unfolding spend_of
returns-then-n-k c = rw (c.in-Units.is, le-leb _ _ c.if-n-k.true)

pub returns-else-n-k : goal.returns-else-n-k
unfolding spend_of
returns-else-n-k c = rw (c.in-Units.is, lt-leb _ _ c.if-n-k.false)
