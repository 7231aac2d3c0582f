use borrow.Author.Tests.{lt-leb, le-leb}
use Rattle.medium.specs.Geometry.{fields_hold}
use Rattle.medium.proofs.geometry.fields_hold.Goals as goal

pub returns-then-n-gt255 : goal.returns-then-n-gt255
unfolding fields_hold
returns-then-n-gt255 c = rw (lt-leb _ _ c.if-n-gt255.true)

pub returns-then-n-gt255-2 : goal.returns-then-n-gt255-2
unfolding fields_hold
returns-then-n-gt255-2 c = rw (le-leb _ _ c.if-n-gt255.false, lt-leb _ _ c.if-n-gt255-2.true)

pub returns-then-n-gt255-3 : goal.returns-then-n-gt255-3
unfolding fields_hold
returns-then-n-gt255-3 c = rw (le-leb _ _ c.if-n-gt255.false, le-leb _ _ c.if-n-gt255-2.false, lt-leb _ _ c.if-n-gt255-3.true)

pub returns : goal.returns
unfolding fields_hold
returns c = rw (le-leb _ _ c.if-n-gt255.false, le-leb _ _ c.if-n-gt255-2.false, le-leb _ _ c.if-n-gt255-3.false)
