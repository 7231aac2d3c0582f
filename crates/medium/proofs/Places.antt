-- Widths, and where the bytes of an object and of a block lie: one record of facts for every granularity.
use mathlib.Core.Path.{◌≡◌}
use Prim.Native.Nat.{ℕ, ◌+◌, ◌-◌, ◌*◌, ◌%◌, ◌≤◌, ◌<◌}
use native.Mathlib.Nat.{div-mul-le_self}
use native.Mathlib.Omega.{arith}
use Rattle.medium.specs.declared.granularity.Granularity.{Granularity}
use Rattle.medium.specs.declared.granularity.Granularity.TheVariants.{Bit, Word1, Word4}
use Rattle.medium.specs.Granularity.{widest_unit, longest_state, longest_object_header, longest_block_header, width_of, units_in, align_of, finish_at, delete_at, size_at, header, block_header, type_at}

-- ---- widths

-- a unit has a byte or more, and no more than the widest
pub width_is : (k : Granularity) → (1 ≤ width_of k) × (width_of k ≤ widest_unit)
width_is Bit = omega arith
width_is Word1 = omega arith
width_is Word4 = omega arith

-- whole units take less than one unit more
pub align_le : (w n : ℕ) → w ≤ widest_unit → align_of w n ≤ n + (widest_unit - 1)
align_le w n h = omega (arith, div-mul-le_self (n + (w - 1)) w)

-- the same of a count of units that was computed
pub taken_le : (w n u : ℕ) → u ≡ units_in w n → w ≤ widest_unit → u * w ≤ n + (widest_unit - 1)
taken_le w n u e h = rw e (align_le w n h)

-- ---- an object: type, marks, size and payload lie apart, in this order, on whole units

-- the facts, for a size field of s bytes and a payload of n
pub record Laid (k : Granularity) (s n : ℕ) : Type 0 where
  pub pos : 0 < width_of k
  pub narrow : width_of k ≤ widest_unit
  pub one : align_of (width_of k) 1 ≡ width_of k
  pub type_finish : width_of k ≤ finish_at k
  pub type_delete : width_of k ≤ delete_at k
  pub finish_size : finish_at k + width_of k ≤ size_at k
  pub delete_size : delete_at k + width_of k ≤ size_at k
  pub size_plain : size_at k + s ≤ header k s
  pub size_header : size_at k + align_of (width_of k) s ≤ header k s
  pub state_short : size_at k ≤ longest_state
  pub short : header k s ≤ longest_object_header
  pub header_span : header k s + align_of (width_of k) n ≡ align_of (width_of k) (header k s + n)
  pub near : header k s + n ≤ align_of (width_of k) (header k s + n)
  pub finish_even : finish_at k % width_of k ≡ 0
  pub delete_even : delete_at k % width_of k ≡ 0
  pub size_even : size_at k % width_of k ≡ 0
  pub header_even : header k s % width_of k ≡ 0

-- the layout of every object of every granularity
pub laid : (k : Granularity) (s n : ℕ) → s ≤ 3 → Laid k s n
laid Bit s n h = omega arith
laid Word1 s n h = omega arith
laid Word4 s n h = omega arith

-- ---- a block: the type lies in a unit of its own within the header, and the header ends on a whole unit

-- the facts
pub record Headed (k : Granularity) : Type 0 where
  pub type_header : type_at k + width_of k ≤ block_header k
  pub type_even : type_at k % width_of k ≡ 0
  pub block_even : block_header k % width_of k ≡ 0
  pub block_short : block_header k ≤ longest_block_header

-- the block header of every granularity
pub headed : (k : Granularity) → Headed k
headed Bit = omega arith
headed Word1 = omega arith
headed Word4 = omega arith

-- ---- places on whole units

-- a sum of two whole places is one
pub even_add : (k : Granularity) (m n : ℕ) → m % width_of k ≡ 0 → n % width_of k ≡ 0 → (m + n) % width_of k ≡ 0
even_add Bit m n h j = omega arith
even_add Word1 m n h j = omega arith
even_add Word4 m n h j = omega arith

-- an aligned length is whole
pub align_even : (k : Granularity) (n : ℕ) → align_of (width_of k) n % width_of k ≡ 0
align_even Bit n = omega arith
align_even Word1 n = omega arith
align_even Word4 n = omega arith

-- and aligning a whole length changes nothing
pub even_align : (k : Granularity) (n : ℕ) → n % width_of k ≡ 0 → align_of (width_of k) n ≡ n
even_align Bit n h = omega arith
even_align Word1 n h = omega arith
even_align Word4 n h = omega arith

-- aligning takes the smallest whole length that is no shorter
pub align_least : (k : Granularity) (n m : ℕ) → n ≤ m → m % width_of k ≡ 0 → align_of (width_of k) n ≤ m
align_least Bit n m h j = omega arith
align_least Word1 n m h j = omega arith
align_least Word4 n m h j = omega arith

-- the block size is a multiple of 4, so whole for every granularity
pub quad_even : (k : Granularity) (n : ℕ) → n % 4 ≡ 0 → n % width_of k ≡ 0
quad_even Bit n h = omega arith
quad_even Word1 n h = omega arith
quad_even Word4 n h = h
