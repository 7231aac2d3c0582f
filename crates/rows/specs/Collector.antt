-- The rows of the collector: row 13, the erase count's last value, and what a cut leaves: image and table as the sequence of units and fields
-- has them.
use Rattle.std.specs.Prelude.{Bool, ◌&&◌, List, [], ◌∷◌, ◌++◌, ℕ, eqb}
use Rattle.medium.specs.declared.granularity.Granularity.{Granularity}
use Rattle.medium.specs.declared.granularity.Granularity.TheVariants.{Bit, Word1}
use Rattle.medium.specs.declared.geometry.Geometry.{Geometry}
use Rattle.medium.specs.declared.fuse.Fuse.{Fuse}
use Rattle.medium.specs.declared.fuse.Fuse.TheVariants.{Absent, Units}
use Rattle.medium.specs.Operation.{run, number_of}
use Rattle.medium.specs.Beside.{both}
use Rattle.medium.specs.Bench.{blocks, same, ends}
use Rattle.blocks.specs.Scan.{scan_block}
use Rattle.collector.specs.Table.{Pass}
use Rattle.collector.specs.Passes.{delete_invalid_objects, erase_invalid_finished_blocks, erase_full_finished_blocks, collect}
use Rattle.rows.specs.Blocks.{one, starting, scanned}

-- a Data block that was never erased, with the layout byte of Bit or of either Word
abbrev data_block : ℕ → List ℕ → List ℕ
data_block layout bs = starting ((0xBA ∷ 0x01 ∷ layout ∷ 0xAA ∷ 0 ∷ 0 ∷ 0 ∷ 0 ∷ []) ++ bs)

-- a Bit block that was erased n times, Undefined, with nothing in it
abbrev undefined : ℕ → List ℕ
undefined n = starting (0xBA ∷ 0x01 ∷ 0x44 ∷ 0xFF ∷ n ∷ 0 ∷ 0 ∷ 0 ∷ [])

abbrev erased : List ℕ
erased = starting []

abbrev two : Granularity → Geometry
two k = blocks 2 k

-- a pass under a fuse: its number, the fuse that is left, the image and the table
abbrev passed : Pass (Unit {0}) → List ℕ → List ℕ → Fuse → ℕ → Fuse → List ℕ → List ℕ → Bool
passed p img t f n left image table = ends (run f p (both img t)) n left (λ s. same s.image image && same s.table table)

-- a pass that stores nothing
abbrev stays : Pass (Unit {0}) → List ℕ → List ℕ → Fuse → ℕ → Bool
stays p img t f n = passed p img t f n f img t

abbrev record4 : ℕ → ℕ → ℕ → ℕ → List ℕ
record4 a b c d = a ∷ b ∷ c ∷ d ∷ []

-- ---- row 13

abbrev pub thirteen : List Bool
thirteen =
    stays (collect (one Bit)) (data_block 0x44 []) (record4 1 0 8 1) Absent 2
    ∷ stays (delete_invalid_objects (one Bit)) erased (record4 0 0 0 1) Absent 0
    ∷ stays (erase_invalid_finished_blocks (one Bit)) erased (record4 0 0 0 1) Absent 0
    ∷ stays (erase_full_finished_blocks (one Bit)) erased (record4 0 0 0 1) Absent 2
    ∷ stays (collect (one Bit)) erased (record4 0 0 0 1) Absent 2
    ∷ []

-- ---- refusals before any step

abbrev pub impossible : List Bool
impossible =
    stays (collect (two Bit)) (data_block 0x44 [] ++ data_block 0x44 []) (record4 3 0 8 1) Absent 7
    ∷ stays (collect (two Bit)) (data_block 0x44 [] ++ data_block 0x44 []) (record4 3 0 8 1 ++ record4 5 0 8 1) Absent 4
    ∷ stays (collect (two Bit)) (data_block 0x44 [] ++ data_block 0x44 []) (record4 3 0 8 1 ++ record4 3 0 8 2) Absent 4
    ∷ stays (collect (two Bit)) (data_block 0x44 []) (record4 3 0 8 1) Absent 7
    ∷ []

-- ---- the last erase count: 9 at any fuse, what a format would refuse before that, and 2 for an Empty kind before both

abbrev pub last : List Bool
last =
    stays (collect (one Bit)) (data_block 0x44 []) (record4 3 4294967295 8 1) Absent 9
    ∷ stays (collect (one Bit)) (data_block 0x44 []) (record4 3 4294967295 8 1) (Units 0) 9
    ∷ stays (collect (one Bit)) (starting (0xBA ∷ 0x01 ∷ 0x44 ∷ 0xAA ∷ 0xFF ∷ 0xFF ∷ 0xFF ∷ 0xFF ∷ [])) (record4 3 4294967295 8 1) (Units 0) 2
    ∷ stays (erase_full_finished_blocks (one Bit)) (data_block 0x44 []) (record4 0 4294967295 8 1) (Units 0) 2
    ∷ []

-- ---- an Undefined block with nothing in it: nothing is stored, and the record's count is raised all the same

abbrev pub raised : List Bool
raised =
    passed (collect (one Bit)) (undefined 7) (record4 4 7 8 1) (Units 0) 0 (Units 0) (undefined 7) (record4 4 8 8 1)
    ∷ stays (collect (one Bit)) (undefined 7) (record4 4 7 61 1) (Units 0) 0
    ∷ []

-- ---- an unfinished object under Word(1): the marks FF 00 cannot be read any more

abbrev pub broken : List Bool
broken =
    passed (collect (one Word1)) (data_block 0x45 (0x8E ∷ [])) (record4 3 0 12 0) Absent 2 Absent (data_block 0x45 (0x8E ∷ 0xFF ∷ 0x00 ∷ 0x00 ∷ [])) (record4 3 0 12 1)
    ∷ passed (collect (one Word1)) (data_block 0x45 (0x8E ∷ 0x00 ∷ 0xFF ∷ 0x00 ∷ 0x8E ∷ [])) (record4 3 0 16 0) Absent 0 Absent after (record4 3 0 16 1)
    ∷ eqb (number_of (scan_block (one Word1) 0 after)) 2
    ∷ []
  where
    after : List ℕ
    after = data_block 0x45 (0x8E ∷ 0x00 ∷ 0xFF ∷ 0x00 ∷ 0x8E ∷ 0xFF ∷ 0x00 ∷ 0x00 ∷ [])

-- ---- an unfinished object under Bit, at each fuse: size, mark, allow mark, and in the third pass the erase, the header and the record

abbrev unfinished : List ℕ
unfinished = data_block 0x44 (0x8E ∷ 0xFF ∷ 0xFF ∷ 0x41 ∷ [])

abbrev pub cuts : List Bool
cuts =
    passed (collect (one Bit)) (data_block 0x44 (0x8E ∷ [])) (record4 3 0 11 0) (Units 0) 8 (Units 0) (data_block 0x44 (0x8E ∷ [])) (record4 3 0 11 0)
    ∷ passed (collect (one Bit)) (data_block 0x44 (0x8E ∷ [])) (record4 3 0 11 0) (Units 1) 8 (Units 0) (data_block 0x44 (0x8E ∷ 0xFF ∷ 0 ∷ [])) (record4 3 0 11 0)
    ∷ passed (collect (one Bit)) (data_block 0x44 (0x8E ∷ [])) (record4 3 0 11 0) (Units 2) 8 (Units 0) (data_block 0x44 (0x8E ∷ 0x00 ∷ 0 ∷ [])) (record4 3 0 11 1)
    ∷ passed (collect (one Bit)) (data_block 0x44 (0x8E ∷ [])) (record4 3 0 11 0) (Units 3) 8 (Units 0) erased (record4 3 0 11 1)
    ∷ passed (collect (one Bit)) (data_block 0x44 (0x8E ∷ [])) (record4 3 0 11 0) (Units 11) 0 (Units 0) (undefined 1) (record4 4 1 8 1)
    ∷ []

-- ---- used bytes too small: 9; behind an object without a size the listing goes on at its payload, and is refused there or programs bytes of it; a
-- size that agrees: the object is left, and the second pass erases it where no allocation is allowed

abbrev pub rest : List Bool
rest =
    stays (collect (one Bit)) unfinished (record4 3 0 10 0) Absent 9
    ∷ passed (delete_invalid_objects (one Bit)) unfinished (record4 3 0 12 0) Absent 2 Absent (data_block 0x44 (0x8E ∷ 0x00 ∷ 1 ∷ 0x41 ∷ [])) (record4 3 0 12 1)
    ∷ passed (delete_invalid_objects (one Bit)) (data_block 0x44 (0x8E ∷ 0xFF ∷ 0xFF ∷ 0x8E ∷ [])) (record4 3 0 14 0) Absent 0 Absent (data_block 0x44 (0x8E ∷ 0x00 ∷ 3 ∷ 0x8E ∷ 0x00 ∷ 0 ∷ [])) (record4 3 0 14 1)
    ∷ stays (delete_invalid_objects (one Bit)) (data_block 0x44 (0x8E ∷ 0xFF ∷ 1 ∷ 0x41 ∷ [])) (record4 3 0 12 0) Absent 0
    ∷ passed (collect (one Bit)) (data_block 0x44 (0x8E ∷ 0xFF ∷ 1 ∷ 0x41 ∷ [])) (record4 3 0 12 0) Absent 0 Absent (undefined 1) (record4 4 2 8 1)
    ∷ stays (erase_invalid_finished_blocks (one Bit)) (data_block 0x44 (0x8E ∷ 0xFF ∷ 0 ∷ 0x8E ∷ 0xF0 ∷ 0 ∷ [])) (record4 3 0 14 0) Absent 2
    ∷ []

-- ---- the second pass lists a block before it looks at the record's kind

abbrev pub listed_first : List Bool
listed_first =
    stays (erase_invalid_finished_blocks (one Bit)) erased (record4 0 0 0 0) Absent 0
    ∷ stays (erase_invalid_finished_blocks (one Bit)) unfinished (record4 0 0 12 0) Absent 2
    ∷ []

-- ---- "It skips blocks whose used bytes are at least block size minus object header": 61 of 64, however little of it is in use

abbrev pub full : List Bool
full =
    stays (erase_full_finished_blocks (one Bit)) (deleted 50) (record4 3 0 61 1) Absent 0
    ∷ passed (erase_full_finished_blocks (one Bit)) (deleted 49) (record4 3 0 60 1) Absent 0 Absent (undefined 1) (record4 4 1 8 1)
    ∷ []
  where
    deleted : ℕ → List ℕ
    deleted n = data_block 0x44 (0x8E ∷ 0x00 ∷ n ∷ [])

-- ---- a whole collection may format a block in which the listing showed a finished object before it: the first pass gives the unfinished
-- object in front of it a size that reaches over it

abbrev pub swallowed : List Bool
swallowed =
    same (scanned (scan_block (one Bit) 0 before)) (3 ∷ 0 ∷ 14 ∷ 1 ∷ [])
    ∷ passed (delete_invalid_objects (one Bit)) before (record4 3 0 14 1) Absent 0 Absent (data_block 0x44 (0x8E ∷ 0x00 ∷ 3 ∷ 0x8E ∷ 0xF0 ∷ 0 ∷ [])) (record4 3 0 14 1)
    ∷ passed (collect (one Bit)) before (record4 3 0 14 1) Absent 0 Absent (undefined 1) (record4 4 1 8 1)
    ∷ []
  where
    before : List ℕ
    before = data_block 0x44 (0x8E ∷ 0xFF ∷ 0xFF ∷ 0x8E ∷ 0xF0 ∷ 0 ∷ [])

-- ---- a finished object that runs past the end of its block is kept as far as the block goes: the third pass formats the next one, and
-- with it the object's last byte, the type of block 1

abbrev pub overrun : List Bool
overrun =
    same (scanned (scan_block (two Bit) 0 (long ++ data_block 0x44 []))) (3 ∷ 0 ∷ 68 ∷ 1 ∷ [])
    ∷ passed (erase_full_finished_blocks (two Bit)) (long ++ data_block 0x44 []) (record4 3 0 68 1 ++ record4 3 0 8 1) Absent 0 Absent
    (long ++ undefined 1)
    (record4 3 0 68 1 ++ record4 4 1 8 1)
    ∷ []
  where
    long : List ℕ
    long = data_block 0x44 (0x8E ∷ 0xF0 ∷ 57 ∷ [])
