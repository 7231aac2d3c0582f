-- "The collector's table (added) is records of one fixed size, no header: four u32 a block, kind (0 Empty, 1 Unknown, 2 Metadata, 3 Data,
-- 4 Undefined), erase count, used bytes, allow mark." A pass works on the image and on this table beside it.
use Rattle.std.specs.Prelude.{List, [], ◌∷◌, ℕ, zero, suc, ◌+◌, ◌*◌, ◌≤◌, length, get_or, eqb}
use Rattle.medium.specs.declared.geometry.Geometry.{Geometry}
use Rattle.medium.specs.Granularity.{pick}
use Rattle.medium.specs.Geometry.{admit}
use Rattle.medium.specs.Operation.{Answer, done, and_then, number_of, OpIn, putting}
use Rattle.medium.specs.Beside.{beside, fields, stored}
use Rattle.blocks.specs.declared.record.BlockInfo.{BlockInfo}
use Rattle.blocks.specs.Record.{info_of, record_numbers}

abbrev pub Pass : Type 0 → Type 0
Pass A = OpIn beside A

-- ---- the words of a record, in their order, and how many there are

abbrev pub kind : ℕ
kind = 0

abbrev pub erase_count : ℕ
erase_count = 1

abbrev pub used_bytes : ℕ
used_bytes = 2

abbrev pub allow_mark : ℕ
allow_mark = 3

abbrev pub record_length : ℕ
record_length = 4

-- where word i of block b's record stands
abbrev pub field_at : ℕ → ℕ → ℕ
field_at b i = record_length * b + i

abbrev pub HasRecord : List ℕ → ℕ → Type 0
HasRecord t b = record_length * b + record_length ≤ length t

-- ---- one block's record

abbrev pub word_at : List ℕ → ℕ → ℕ → ℕ
word_at t b i = get_or t (field_at b i) 0

unfoldable pub record_at : List ℕ → ℕ → Answer BlockInfo
record_at t b = info_of (word_at t b kind) (word_at t b erase_count) (word_at t b used_bytes) (word_at t b allow_mark)

abbrev pub put_record : List ℕ → ℕ → BlockInfo → List ℕ
put_record t b r = stored (record_length * b) 0 (record_numbers r) t

unfoldable pub storing : ℕ → BlockInfo → Pass (Unit {0})
storing b r = putting (fields (record_length * b) 0 (record_numbers r)) tt

-- the allow mark alone
unfoldable pub allowing : ℕ → Pass (Unit {0})
allowing b = putting (fields (record_length * b) allow_mark (1 ∷ [])) tt

-- ---- 6, 7 for the image, 7 for the table, and 4 for an impossible value in any record; or 0

-- of n records from b up
unfoldable pub possible_from : ℕ → List ℕ → ℕ → Answer (Unit {0})
possible_from zero t b = done tt
possible_from (suc n) t b = and_then (record_at t b) (λ _. possible_from n t (b + 1))

unfoldable pub collectable : Geometry → ℕ → List ℕ → ℕ
collectable g room t = admit g room (pick (eqb (record_length * g.count) (length t)) (number_of (possible_from g.count t 0)) 7)
