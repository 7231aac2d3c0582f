use mathlib.Core.Path.{◌≡◌}
use Prim.Native.Nat.{◌+◌, ◌-◌, ◌*◌}
use lib.ListN.{length}
use Rattle.medium.specs.Operation.{run}
use Rattle.moving.specs.Moving.{copying}
use Rattle.moving.proofs.copy.Given as goal

-- what is still to be copied ends as the whole copy does
abbrev pub invariant-loop-i : goal.invariant-loop-i
invariant-loop-i l = record {
  room : length l.image ≡ length l.initial.image;
  rest : run l.initial.fuse (copying l.turns l.g l.block l.from l.n l.initial.v) l.initial.image ≡ run l.fuse (copying (l.turns - l.i) l.g l.block (l.from + 16 * l.i) (l.n - 16 * l.i) l.v) l.image;
}
