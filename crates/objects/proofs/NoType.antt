-- A number that is no byte is no type.
use mathlib.Core.Path.{◌≡◌}
use Prim.Native.Nat.{ℕ, ◌<◌}
use native.Mathlib.Omega.{arith}
use borrow.Author.Tests.{ne_eqb}
use Rattle.medium.specs.Operation.{refused}
use Rattle.objects.specs.Types.{type_of}

pub type_high : (kind : ℕ) → 255 < kind → type_of kind ≡ refused 2
unfolding type_of
type_high kind h = simp (ne_eqb kind 0x8F (λ e. omega arith), ne_eqb kind 0x8E (λ e. omega arith), ne_eqb kind 0x8D (λ e. omega arith), ne_eqb kind 0xFF (λ e. omega arith))
