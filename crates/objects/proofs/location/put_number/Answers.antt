use mathlib.Core.Path.{sym, ◌∙◌}
use native.Mathlib.Omega.{arith}
use Rattle.objects.proofs.Numbers.{put_more, put_all}
use Rattle.objects.proofs.location.put_number.Goals as goal

pub loop-byte-preserved : goal.loop-byte-preserved
loop-byte-preserved c = put_more _ _ _ _ (omega arith) c.loop-byte.invariant

pub returns : goal.returns
returns c = sym (put_all c.loop-byte.byte-index c.loop-byte.room c.loop-byte.left (omega arith)) ∙ c.loop-byte.invariant
