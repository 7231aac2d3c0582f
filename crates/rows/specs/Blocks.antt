-- The rows of blocks: what a format leaves at each of its branches, and what scans give.
use Rattle.std.specs.Prelude.{Bool, false, List, [], ◌∷◌, ◌++◌, ℕ, replicate, eqb}
use Rattle.medium.specs.declared.granularity.Granularity.{Granularity}
use Rattle.medium.specs.declared.granularity.Granularity.TheVariants.{Bit, Word1, Word4}
use Rattle.medium.specs.declared.geometry.Geometry.{Geometry}
use Rattle.medium.specs.declared.fuse.Fuse.TheVariants.{Absent, Units}
use Rattle.medium.specs.Operation.{Answer, done, refused, number_of}
use Rattle.medium.specs.Bench.{blocks, holding, same, row}
use Rattle.blocks.specs.declared.record.BlockInfo.{BlockInfo}
use Rattle.blocks.specs.BlockHeader.{kind_number}
use Rattle.blocks.specs.Record.{allow_number}
use Rattle.blocks.specs.Format.{format_block, format_storage}
use Rattle.blocks.specs.Scan.{scan_block, calculate_freeable_space}

-- one block of 64 bytes
abbrev pub one : Granularity → Geometry
one k = blocks 1 k

-- its first bytes, and FF
abbrev pub starting : List ℕ → List ℕ
starting bs = holding 64 0 bs

-- the four numbers of a record, or the refusal
abbrev pub scanned : Answer BlockInfo → List ℕ
scanned (done r) = kind_number r.header.kind ∷ r.header.erase_count ∷ r.used_bytes ∷ allow_number r.allow_alloc ∷ []
scanned (refused n) = n ∷ []

abbrev count_is : Answer ℕ → ℕ → Bool
count_is (done m) n = eqb m n
count_is (refused k) n = false

-- ---- the branches of a format, under each granularity

-- an empty header: over erased flash a header is stored and nothing erased; over data the block is erased first
abbrev pub fresh : List Bool
fresh =
    row (Units 8) (format_block (one Word1) 0) (replicate 64 255) 0 (Units 0) (starting (0xBA ∷ 0x01 ∷ 0x45 ∷ 0xFF ∷ 0 ∷ 0 ∷ 0 ∷ 0 ∷ []))
    ∷ row (Units 3) (format_block (one Word4) 0) (replicate 64 255) 0 (Units 0) (starting (0xBA ∷ 0x01 ∷ 0x45 ∷ 0xFF ∷ 0 ∷ 0 ∷ 0 ∷ 0 ∷ []))
    ∷ row (Units 1) (format_block (one Word4) 0) (replicate 63 255 ++ (0 ∷ [])) 8 (Units 0) (replicate 64 255)
    ∷ row (Units 9) (format_block (one Bit) 0) (replicate 63 255 ++ (0 ∷ [])) 0 (Units 0) (starting (0xBA ∷ 0x01 ∷ 0x44 ∷ 0xFF ∷ 0 ∷ 0 ∷ 0 ∷ 0 ∷ []))
    ∷ []

-- an Undefined block with nothing in it stays; an Unknown one starts anew at 0, and so does an empty kind with an erase count
abbrev pub others : List Bool
others =
    row (Units 0) (format_block (one Bit) 0) (starting (0xBA ∷ 0x01 ∷ 0x44 ∷ 0xFF ∷ 7 ∷ 0 ∷ 0 ∷ 0 ∷ [])) 0 (Units 0) (starting (0xBA ∷ 0x01 ∷ 0x44 ∷ 0xFF ∷ 7 ∷ 0 ∷ 0 ∷ 0 ∷ []))
    ∷ row Absent (format_block (one Bit) 0) (starting (0xBA ∷ 0x01 ∷ 0x44 ∷ 0xFF ∷ 7 ∷ 0 ∷ 0 ∷ 0 ∷ 1 ∷ [])) 0 Absent (starting (0xBA ∷ 0x01 ∷ 0x44 ∷ 0xFF ∷ 8 ∷ 0 ∷ 0 ∷ 0 ∷ []))
    ∷ row Absent (format_block (one Bit) 0) (starting (0xBA ∷ 0x01 ∷ 0x45 ∷ 0xFF ∷ 7 ∷ 0 ∷ 0 ∷ 0 ∷ [])) 0 Absent (starting (0xBA ∷ 0x01 ∷ 0x44 ∷ 0xFF ∷ 0 ∷ 0 ∷ 0 ∷ 0 ∷ []))
    ∷ row Absent (format_block (one Bit) 0) (starting (0xFF ∷ 0xFF ∷ 0xFF ∷ 0xFF ∷ 7 ∷ 0 ∷ 0 ∷ 0 ∷ [])) 0 Absent (starting (0xBA ∷ 0x01 ∷ 0x44 ∷ 0xFF ∷ 0 ∷ 0 ∷ 0 ∷ 0 ∷ []))
    ∷ row Absent (format_storage (one Bit)) (replicate 64 255) 0 Absent (starting (0xBA ∷ 0x01 ∷ 0x44 ∷ 0xFF ∷ 0 ∷ 0 ∷ 0 ∷ 0 ∷ []))
    ∷ []

-- ---- scans: the inspector's block with row 1's object, an erased one, an Unknown one, a byte that no rule names, and one that ends in an
-- unfinished object

abbrev held : List ℕ → List ℕ
held bs = starting ((0xBA ∷ 0x01 ∷ 0x44 ∷ 0xAA ∷ 3 ∷ 0 ∷ 0 ∷ 0 ∷ []) ++ bs)

abbrev pub scans : List Bool
scans =
    same (scanned (scan_block (one Bit) 0 (held (0x8E ∷ 0xF0 ∷ 3 ∷ 0x41 ∷ 0x42 ∷ 0x43 ∷ [])))) (3 ∷ 3 ∷ 14 ∷ 1 ∷ [])
    ∷ same (scanned (scan_block (one Bit) 0 (replicate 64 255))) (1 ∷ [])
    ∷ same (scanned (scan_block (one Bit) 0 (starting (1 ∷ 0xFF ∷ 2 ∷ [])))) (1 ∷ 4294967295 ∷ 3 ∷ 0 ∷ [])
    ∷ same (scanned (scan_block (one Word4) 0 (starting (0xBA ∷ 0x01 ∷ 0x45 ∷ 0xFF ∷ 3 ∷ 0 ∷ 0 ∷ 0 ∷ 0xAA ∷ 0xFF ∷ 0xFF ∷ 0xFF ∷ [])))) (3 ∷ 3 ∷ 12 ∷ 1 ∷ [])
    ∷ same (scanned (scan_block (one Word4) 0 (starting (0xBA ∷ 0x01 ∷ 0x45 ∷ 0xFF ∷ 3 ∷ 0 ∷ 0 ∷ 0 ∷ 0xAA ∷ 0xFF ∷ 0x00 ∷ 0xFF ∷ [])))) (1 ∷ 3 ∷ 11 ∷ 0 ∷ [])
    ∷ same (scanned (scan_block (one Bit) 0 (held (0x8E ∷ 0xF0 ∷ 0 ∷ 0x8E ∷ 0xFF ∷ 0xFF ∷ 0xFF ∷ [])))) (3 ∷ 3 ∷ 14 ∷ 0 ∷ [])
    ∷ same (scanned (scan_block (one Bit) 0 (held (0x8C ∷ [])))) (2 ∷ [])
    ∷ count_is (calculate_freeable_space (one Bit) 0 (held (0x8E ∷ 0x00 ∷ 3 ∷ 0x41 ∷ 0x42 ∷ 0x43 ∷ []))) 56
    ∷ count_is (calculate_freeable_space (one Bit) 0 (held (0x8E ∷ 0xF0 ∷ 3 ∷ 0x41 ∷ 0x42 ∷ 0x43 ∷ []))) 50
    ∷ eqb (number_of (calculate_freeable_space (one Bit) 0 (held (0x8E ∷ 0xF0 ∷ 60 ∷ [])))) 9
    ∷ []
