use mathlib.Core.Path.{◌≡◌}
use lib.ListN.{length}
use Rattle.objects.specs.Numbers.{bytes}
use Rattle.objects.proofs.Numbers.{put_from}
use Rattle.objects.proofs.location.put_number.Given as goal

abbrev pub invariant-loop-byte : goal.invariant-loop-byte
invariant-loop-byte l = put_from l.byte-index l.room l.left ≡ bytes (length l.initial.room) l.n
