use mathlib.Core.Path.{◌≡◌}
use Prim.Native.Nat.{◌+◌, ◌-◌, ◌*◌}
use lib.ListN.{length, drop}
use Rattle.medium.specs.Granularity.{units_in, align_of}
use Rattle.medium.specs.Units.{padded, words, units_of}
use Rattle.medium.specs.Strict.{any_again}
use Rattle.medium.proofs.meets.Given as goal

abbrev pub invariant-loop-unit : goal.invariant-loop-unit
invariant-loop-unit l =
    (l.unit * l.w + units_in l.w (length l.src - l.unit * l.w) * l.w ≡ align_of l.w (length l.src))
    × (any_again (units_of l.w 0 l.src) l.old ≡ any_again (words (units_in l.w (length l.src - l.unit * l.w)) l.w (l.unit * l.w) (drop (l.unit * l.w) (padded l.w l.src))) l.old)
