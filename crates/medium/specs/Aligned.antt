-- "Span is the total aligned up": what the line of `Granularity::align`, `(n + w - 1) / w * w`, is for every n and every width from 1 on.
use Rattle.std.specs.Prelude.{◌≡◌, ℕ, ◌+◌, ◌-◌, ◌*◌, ◌/◌, ◌%◌, ◌≤◌, eqb}
use Rattle.medium.specs.Granularity.{pick, align_of}

-- ---- what the contracts cite

unfoldable pub OneLine : Type 0
OneLine = (w n : ℕ) → 1 ≤ w → (n + w - 1) / w * w ≡ align_of w n

-- ---- what the Rust's branches give: `width` and `align` of norfs-driver's medium.rs, where a word has any length

pub data WriteGranularity : Type 0 where
  Bit : WriteGranularity
  Word : ℕ → WriteGranularity

abbrev pub width : WriteGranularity → ℕ
width Bit = 1
width (Word len) = len

abbrev pub align : WriteGranularity → ℕ → ℕ
align Bit size = size
align (Word len) size = let remainder = size % len in pick (eqb remainder 0) size (size + len - remainder)

-- words of no bytes are left out: the Rust panics at a remainder by 0
unfoldable pub AsTheRust : Type 0
AsTheRust = (g : WriteGranularity) (n : ℕ) → 1 ≤ width g → (n + width g - 1) / width g * width g ≡ align g n

-- ---- the least multiple of the width that is not below n

pub record LeastMultiple (w n m : ℕ) : Type 0 where
  pub multiple : m % w ≡ 0
  pub not_below : n ≤ m
  pub least : (x : ℕ) → x % w ≡ 0 → n ≤ x → m ≤ x

unfoldable pub Least : Type 0
Least = (w n : ℕ) → 1 ≤ w → LeastMultiple w n ((n + w - 1) / w * w)
