-- A record's allow mark as a number.
use mathlib.Core.Path.{◌≡◌, refl}
use Prim.Native.Nat.{ℕ, zero, suc, ◌≤◌, ◌<◌}
use native.Mathlib.Omega.{arith}
use lib.Dec.{eqb}
use borrow.Author.Tests.{ne_eqb}
use Rattle.medium.specs.Operation.{done, refused}
use Rattle.blocks.specs.Record.{allow_of}

pub allow_is : (n : ℕ) → n ≤ 1 → allow_of n ≡ done (eqb n 1)
allow_is zero h = refl
allow_is (suc zero) h = refl
allow_is (suc (suc n)) h = absurd (omega arith)

pub allow_no : (n : ℕ) → 1 < n → allow_of n ≡ refused 4
allow_no n h = rw (ne_eqb n 0 (λ e. absurd (omega arith)), ne_eqb n 1 (λ e. absurd (omega arith)))
