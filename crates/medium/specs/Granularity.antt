-- "Granularity is Bit, Word(1) or Word(4), of width 1, 1 and 4." And what stands in a column of 01's tables for each.
use Rattle.std.specs.Prelude.{ℕ, ◌+◌, ◌-◌, ◌*◌, ◌/◌, Bool, true, false, eqb}
use Rattle.medium.specs.Answer.{Answer, done, refused}
use Rattle.medium.specs.declared.granularity.Granularity.{Granularity}
use Rattle.medium.specs.declared.granularity.Granularity.TheVariants.{Bit, Word1, Word4}

-- the first where the test holds, else the second
abbrev pub pick : {A : Type 0} → Bool → A → A → A
pick true a b = a
pick false a b = b

-- ---- the most that any granularity takes: a unit, the bytes of an object's state, an object header, a block header

abbrev pub widest_unit : ℕ
widest_unit = 4

abbrev pub longest_state : ℕ
longest_state = 12

abbrev pub longest_object_header : ℕ
longest_object_header = 16

abbrev pub longest_block_header : ℕ
longest_block_header = 12

-- ---- "granularity 0, 1 or 4", in the geometry record

abbrev pub byte_of : Granularity → ℕ
byte_of Bit = 0
byte_of Word1 = 1
byte_of Word4 = 4

unfoldable pub granularity_of : ℕ → Answer Granularity
granularity_of b = pick (eqb b 0) (done Bit) (pick (eqb b 1) (done Word1) (pick (eqb b 4) (done Word4) (refused 6)))

-- ---- "A unit is one byte, or one four-byte word under Word(4)."

abbrev pub width_of : Granularity → ℕ
width_of Bit = 1
width_of Word1 = 1
width_of Word4 = 4

-- how many units of w bytes n bytes take
abbrev pub units_in : ℕ → ℕ → ℕ
units_in w n = (n + (w - 1)) / w

-- n bytes aligned up
abbrev pub align_of : ℕ → ℕ → ℕ
align_of w n = units_in w n * w

-- ---- the strict mark "goes with Word granularities only": the most that it can be

abbrev pub most_strict : Granularity → ℕ
most_strict Bit = 0
most_strict Word1 = 1
most_strict Word4 = 1

-- ---- "Bytes of an object": state marks, size field at, object header

abbrev pub finish_at : Granularity → ℕ
finish_at Bit = 1
finish_at Word1 = 1
finish_at Word4 = 4

abbrev pub delete_at : Granularity → ℕ
delete_at Bit = 1
delete_at Word1 = 2
delete_at Word4 = 8

abbrev pub finish_mark : Granularity → ℕ
finish_mark Bit = 0xF0
finish_mark Word1 = 0x00
finish_mark Word4 = 0x00

abbrev pub size_at : Granularity → ℕ
size_at Bit = 2
size_at Word1 = 3
size_at Word4 = 12

abbrev pub header : Granularity → ℕ → ℕ
header Bit s = 2 + s
header Word1 s = 3 + s
header Word4 s = 16

-- ---- "Bytes of a block": "Length 8, under Word(4) 12"; "type at byte 3, or at byte 8 under Word(4)"; the layout byte's 1 for either Word

abbrev pub block_header : Granularity → ℕ
block_header Bit = 8
block_header Word1 = 8
block_header Word4 = 12

abbrev pub type_at : Granularity → ℕ
type_at Bit = 3
type_at Word1 = 3
type_at Word4 = 8

abbrev pub layout_bit : Granularity → ℕ
layout_bit Bit = 0
layout_bit Word1 = 1
layout_bit Word4 = 1
