-- Where the bytes of a header stand, for every granularity.
use Prim.Native.Nat.{ℕ, ◌+◌, ◌≤◌, ◌<◌}
use native.Mathlib.Omega.{arith}
use Rattle.medium.specs.declared.granularity.Granularity.{Granularity}
use Rattle.medium.specs.declared.granularity.Granularity.TheVariants.{Bit, Word1, Word4}
use Rattle.medium.specs.Granularity.{longest_state, longest_block_header, finish_at, delete_at, size_at, header, block_header}

pub record Places (k : Granularity) : Type 0 where
  pub finish : finish_at k < size_at k
  pub delete : delete_at k < size_at k
  pub least : 2 ≤ size_at k
  pub most : size_at k ≤ longest_state
  pub block : block_header k ≤ longest_block_header

pub places : (k : Granularity) → Places k
places Bit = record { finish = omega arith; delete = omega arith; least = omega arith; most = omega arith; block = omega arith }
places Word1 = record { finish = omega arith; delete = omega arith; least = omega arith; most = omega arith; block = omega arith }
places Word4 = record { finish = omega arith; delete = omega arith; least = omega arith; most = omega arith; block = omega arith }

pub header_small : (k : Granularity) (s : ℕ) → header k s ≤ s + 16
header_small Bit s = omega arith
header_small Word1 s = omega arith
header_small Word4 s = omega arith
