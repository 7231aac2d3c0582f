use borrow.Author.Tests.{ne_eqb}
use Rattle.medium.specs.Granularity.{granularity_of}
use Rattle.medium.proofs.granularity.GranularityTryFromU8.try_from.Goals as goal

pub returns-in-0 : goal.returns-in-0
unfolding granularity_of
returns-in-0 c = rw c.in-0.is

pub returns-in-1 : goal.returns-in-1
unfolding granularity_of
returns-in-1 c = rw c.in-1.is

pub returns-in-4 : goal.returns-in-4
unfolding granularity_of
returns-in-4 c = rw c.in-4.is

pub returns-in_default : goal.returns-in_default
unfolding granularity_of
returns-in_default c = simp (ne_eqb _ _ c.in_default.in_default-own.rest.0.0.1, ne_eqb _ _ c.in_default.in_default-own.rest.0.1, ne_eqb _ _ c.in_default.in_default-own.rest.1)
