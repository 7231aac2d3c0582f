-- Copying: the loop turn by turn.
use mathlib.Core.Path.{◌≡◌}
use mathlib.Core.List.{List}
use Prim.Native.Nat.{ℕ, suc, ◌+◌, ◌-◌, ◌*◌, ◌≤◌, ◌<◌, min}
use native.Mathlib.Omega.{arith}
use Rattle.medium.specs.Operation.{done, ◌>>=◌, run}
use Rattle.medium.specs.declared.geometry.Geometry.{Geometry}
use Rattle.medium.specs.declared.fuse.Fuse.{Fuse}
use Rattle.medium.proofs.Runs.{run_ask}
use Rattle.writer.specs.declared.writer.ObjectWriter.{ObjectWriter}
use Rattle.moving.specs.Moving.{chunk, copying}

pub turn_length : (n : ℕ) → min n 16 ≡ min 16 n
turn_length n = omega arith

pub copy_step : (turns i : ℕ) (g : Geometry) (b from n : ℕ) (v : ObjectWriter) (f : Fuse) (img : List ℕ) → i < turns
    → run f (copying (turns - i) g b (from + 16 * i) (n - 16 * i) v) img
    ≡ run f (chunk g b (from + 16 * i) (min 16 (n - 16 * i)) v >>= λ w. copying (turns - (i + 1)) g b (from + 16 * (i + 1)) (n - 16 * (i + 1)) w) img
unfolding copying
copy_step turns i g b from n v f img h =
    let e : turns - i ≡ suc (turns - (i + 1)) = omega arith in
    let a : from + 16 * i + 16 ≡ from + 16 * (i + 1) = omega arith in
    let s : n - 16 * i - 16 ≡ n - 16 * (i + 1) = omega arith in
    rw (e, a, s)

pub copy_end : (turns i : ℕ) (g : Geometry) (b from n : ℕ) (v : ObjectWriter) (f : Fuse) (img : List ℕ) → turns ≤ i
    → run f (copying (turns - i) g b (from + 16 * i) (n - 16 * i) v) img ≡ record { answer = done v; fuse = f; state = img }
unfolding copying
copy_end turns i g b from n v f img h =
    let e : turns - i ≡ 0 = omega arith in
    rw e (run_ask f (λ _. done v) img)
