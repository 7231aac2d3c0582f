use mathlib.Core.Path.{◌≡◌}
use Prim.Native.Nat.{◌-◌, ◌≤◌}
use lib.ListN.{length, drop}
use Rattle.objects.specs.Numbers.{number}
use Rattle.objects.proofs.location.number.Given as goal

-- the bytes from the high end
abbrev pub invariant-loop-byte : goal.invariant-loop-byte
invariant-loop-byte l = record {
  within : length l.yielded ≤ length l.raw;
  value : l.n ≡ number (drop (length l.raw - length l.yielded) l.raw);
}
