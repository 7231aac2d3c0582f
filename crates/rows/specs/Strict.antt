-- The rows of the strict mark: blocks of 64 bytes under Word(1) and Word(4) of a chip that programs no unit twice.
use Rattle.std.specs.Prelude.{Bool, false, ◌&&◌, List, [], ◌∷◌, ◌++◌, ℕ, replicate}
use Rattle.medium.specs.declared.granularity.Granularity.{Granularity}
use Rattle.medium.specs.declared.granularity.Granularity.TheVariants.{Bit, Word1, Word4}
use Rattle.medium.specs.declared.geometry.Geometry.{Geometry}
use Rattle.medium.specs.declared.fuse.Fuse.TheVariants.{Absent, Units}
use Rattle.medium.specs.Operation.{Op, run}
use Rattle.medium.specs.Medium.{write, erase}
use Rattle.medium.specs.Marked.{with_strict}
use Rattle.medium.specs.Beside.{both}
use Rattle.medium.specs.Bench.{blocks, holding, all, same, ends, row}
use Rattle.objects.specs.declared.types.ObjectType.TheVariants.{FileData}
use Rattle.objects.specs.declared.state.ObjectDataState.TheVariants.{Untrusted, Valid}
use Rattle.objects.specs.declared.state.CompositeObjectState.TheVariants as comp
use Rattle.objects.specs.declared.state.ObjectState.TheVariants as state
use Rattle.objects.specs.declared.location.ObjectLocation.{ObjectLocation}
use Rattle.objects.specs.declared.header.ObjectHeader.{ObjectHeader}
use Rattle.objects.specs.Header.{update_state, set_payload_size}
use Rattle.blocks.specs.declared.header.BlockType.TheVariants.{Metadata, Undefined}
use Rattle.blocks.specs.Format.{format_block, set_block_type}
use Rattle.writer.specs.declared.writer.ObjectWriter.{ObjectWriter}
use Rattle.writer.specs.Writer.{allocate, write_some, delete, write_to}
use Rattle.moving.specs.Moving.{move_object}
use Rattle.collector.specs.Passes.{delete_invalid_objects}
use Rattle.batch.specs.Batch.{write_all}
use Rattle.sweep.specs.Sweep as twins

abbrev chip : ℕ → Granularity → Geometry
chip n k = with_strict (blocks n k) 1

abbrev blank_block : List ℕ
blank_block = replicate 64 255

abbrev place : ℕ → ℕ → ObjectLocation
place b o = record { block = b; offset = o }

-- a call that is refused so, at any fuse that it is given, with nothing stored
abbrev refuses : {A : Type 0} → ℕ → Op A → List ℕ → Bool
refuses n o img = all (row Absent o img n Absent img ∷ row (Units 9) o img n (Units 9) img ∷ row (Units 0) o img n (Units 0) img ∷ [])

-- ---- one store: 3, then 10, then 8; a unit is the whole word; FF data never refuses, and costs its unit

abbrev five : List ℕ
five = 0x11 ∷ 0x22 ∷ 0x33 ∷ 0x44 ∷ 0x55 ∷ []

abbrev pub stores : List Bool
stores =
    refuses 10 (write (chip 1 Word1) 0 8 (0x41 ∷ [])) (holding 64 8 (0x7F ∷ []))
    ∷ refuses 10 (write (chip 1 Word4) 0 8 (0x41 ∷ [])) (holding 64 10 (0x7F ∷ []))
    ∷ row (Units 1) (write (chip 1 Word1) 0 8 (0x41 ∷ [])) (holding 64 10 (0x7F ∷ [])) 0 (Units 0) (holding 64 8 (0x41 ∷ 0xFF ∷ 0x7F ∷ []))
    -- none of its units, though the first one is erased
    ∷ refuses 10 (write (chip 1 Word4) 0 8 five) (holding 64 15 (0x7F ∷ []))
    ∷ refuses 3 (write (chip 1 Word4) 0 62 (0x41 ∷ [])) (replicate 64 0)
    ∷ row (Units 0) (write (chip 1 Word4) 0 8 five) (holding 64 16 (0x7F ∷ [])) 8 (Units 0) (holding 64 16 (0x7F ∷ []))
    ∷ row (Units 1) (write (chip 1 Word4) 0 8 (0xFF ∷ 0xFF ∷ [])) (replicate 64 0) 0 (Units 0) (replicate 64 0)
    ∷ row (Units 2) (write (chip 1 Word4) 0 8 (1 ∷ 2 ∷ 3 ∷ 4 ∷ 0xFF ∷ [])) (holding 64 13 (0x7F ∷ [])) 0 (Units 0) (holding 64 8 (1 ∷ 2 ∷ 3 ∷ 4 ∷ 0xFF ∷ 0x7F ∷ []))
    -- an erase is an erase
    ∷ row (Units 1) (erase (chip 1 Word4) 0) (replicate 64 0) 0 (Units 0) blank_block
    -- the mark is 0 or 1, and goes with words
    ∷ refuses 6 (write (chip 1 Bit) 0 8 (0x41 ∷ [])) blank_block
    ∷ refuses 6 (write (with_strict (blocks 1 Word1) 2) 0 8 (0x41 ∷ [])) blank_block
    ∷ refuses 6 (write (with_strict (blocks 1 Word4) 255) 9 8 (0x41 ∷ [])) (0 ∷ blank_block)
    ∷ []

-- ---- blocks: a second type is refused, Undefined is always done; a format of anything is done

abbrev data_header : List ℕ
data_header = 0xBA ∷ 0x01 ∷ 0x45 ∷ 0xAA ∷ 0 ∷ 0 ∷ 0 ∷ 0 ∷ []

abbrev wide_header : ℕ → ℕ → List ℕ
wide_header n t = 0xBA ∷ 0x01 ∷ 0x45 ∷ 0xFF ∷ n ∷ 0 ∷ 0 ∷ 0 ∷ t ∷ 0xFF ∷ 0xFF ∷ 0xFF ∷ []

abbrev pub types : List Bool
types =
    refuses 10 (set_block_type (chip 1 Word1) 0 Metadata) (holding 64 0 data_header)
    ∷ refuses 10 (set_block_type (chip 1 Word4) 0 Metadata) (holding 64 0 (wide_header 0 0xAA))
    ∷ row (Units 1) (set_block_type (chip 1 Word4) 0 Undefined) (holding 64 0 (wide_header 0 0xAA)) 0 (Units 0) (holding 64 0 (wide_header 0 0xAA))
    ∷ row (Units 1) (set_block_type (chip 1 Word4) 0 Metadata) (holding 64 0 (wide_header 0 0xFF)) 0 (Units 0) (holding 64 0 (wide_header 0 0x55))
    ∷ row (Units 4) (format_block (chip 1 Word4) 0) (replicate 64 0) 0 (Units 0) (holding 64 0 (wide_header 0 0xFF))
    ∷ row (Units 4) (format_block (chip 1 Word4) 0) (holding 64 0 (wide_header 6 0xAA)) 0 (Units 0) (holding 64 0 (wide_header 7 0xFF))
    ∷ []

-- ---- objects: the type over a begun object, or over a word with another byte; a mark, a size

-- FileData at 12 under Word(4): its words of type, finish mark, delete mark and size, and a word of payload
abbrev wide : ℕ → List ℕ → List ℕ → List ℕ
wide finish delete rest = (0x8E ∷ 0xFF ∷ 0xFF ∷ 0xFF ∷ finish ∷ 0xFF ∷ 0xFF ∷ 0xFF ∷ []) ++ (delete ++ rest)

abbrev free : List ℕ
free = 0xFF ∷ 0xFF ∷ 0xFF ∷ 0xFF ∷ []

-- another byte of the delete mark's word is programmed
abbrev spoilt : List ℕ
spoilt = 0xFF ∷ 0x7F ∷ 0xFF ∷ 0xFF ∷ []

abbrev held : ℕ → ObjectHeader
held n = record { state = comp.Allocated FileData Valid; size = n; location = place 0 12 }

abbrev begun : ObjectHeader
begun = record { state = comp.Allocated FileData Untrusted; size = 255; location = place 0 12 }

abbrev pub objects : List Bool
objects =
    refuses 10 (allocate (chip 1 Word1) (place 0 8) FileData) (holding 64 8 (0x8E ∷ []))
    ∷ refuses 10 (allocate (chip 1 Word4) (place 0 12) FileData) (holding 64 13 (0x7F ∷ []))
    ∷ refuses 10 (write_to (chip 1 Word4) (place 0 12) FileData (0x41 ∷ [])) (holding 64 12 (0x8E ∷ []))
    ∷ refuses 10 (update_state (chip 1 Word4) (held 2) state.Deleted) (holding 64 12 (wide 0 spoilt (2 ∷ [])))
    ∷ refuses 10 (set_payload_size (chip 1 Word4) begun 2) (holding 64 12 (wide 0xFF free (0xFF ∷ 0x7F ∷ [])))
    ∷ []

-- ---- a writer's held tail: the filled word is stored, and then the others refuse; what is held comes back

abbrev tailed : ObjectWriter
tailed = record { object = begun; cursor = 0; tail = 0x41 ∷ 0x42 ∷ 0x43 ∷ 0 ∷ []; held = 3; spent = false }

abbrev more : List ℕ
more = 0x44 ∷ 0x45 ∷ 0x46 ∷ 0x47 ∷ 0x48 ∷ []

abbrev pub tails : List Bool
tails =
    row (Units 9) (write_some (chip 1 Word4) tailed more) (holding 64 32 (0x7F ∷ [])) 10 (Units 8) (holding 64 28 (0x41 ∷ 0x42 ∷ 0x43 ∷ 0x44 ∷ 0x7F ∷ []))
    ∷ row (Units 9) (write_some (blocks 1 Word4) tailed more) (holding 64 32 (0x7F ∷ [])) 0 (Units 7) (holding 64 28 (0x41 ∷ 0x42 ∷ 0x43 ∷ 0x44 ∷ 0x45 ∷ 0x46 ∷ 0x47 ∷ 0x48 ∷ []))
    ∷ row (Units 1) (write_some (chip 1 Word4) tailed more) blank_block 8 (Units 0) (holding 64 28 (0x41 ∷ 0x42 ∷ 0x43 ∷ 0x44 ∷ []))
    ∷ refuses 10 (write_some (chip 1 Word4) tailed more) (holding 64 28 (0x7F ∷ []))
    ∷ []

-- ---- a move under Word(4): four units and the finish mark's, then the delete mark's. With the mark's word FF it is done; where another byte of it is
-- programmed the copy finishes, and from there on 10 at every fuse: both read finished for good

abbrev original : List ℕ → List ℕ
original delete = holding 64 12 (wide 0 delete (2 ∷ 0xFF ∷ 0xFF ∷ 0xFF ∷ 0x41 ∷ 0x42 ∷ []))

abbrev moving : Op ObjectHeader
moving = move_object (chip 2 Word4) (held 2) (place 1 12)

abbrev pub moves : List Bool
moves =
    row (Units 9) moving (original free ++ blank_block) 0 (Units 4) (original (0 ∷ 0xFF ∷ 0xFF ∷ 0xFF ∷ []) ++ original free)
    ∷ row (Units 3) moving (original spoilt ++ blank_block) 8 (Units 0) (original spoilt ++ holding 64 12 (wide 0xFF free (2 ∷ 0xFF ∷ 0xFF ∷ 0xFF ∷ 0x41 ∷ 0x42 ∷ [])))
    ∷ row (Units 4) moving (original spoilt ++ blank_block) 10 (Units 0) (original spoilt ++ original free)
    ∷ row (Units 5) moving (original spoilt ++ blank_block) 10 (Units 1) (original spoilt ++ original free)
    ∷ row Absent moving (original spoilt ++ blank_block) 10 Absent (original spoilt ++ original free)
    -- and so it stays: the delete is refused each time
    ∷ refuses 10 (update_state (chip 2 Word4) (held 2) state.Deleted) (original spoilt ++ original free)
    -- without the mark it is done
    ∷ row (Units 5) (move_object (blocks 2 Word4) (held 2) (place 1 12)) (original spoilt ++ blank_block) 0 (Units 0) (original (0 ∷ 0x7F ∷ 0xFF ∷ 0xFF ∷ []) ++ original free)
    -- the same move after a cut meets the type's unit of the begun copy
    ∷ refuses 10 moving (original free ++ holding 64 12 (0x8E ∷ []))
    ∷ []

-- ---- the collector's first pass sets the size and then meets the mark; a batch stops with what is done; the sweep refuses with 14

abbrev unfinished : List ℕ → List ℕ
unfinished size = wide_header 0 0xAA ++ wide 0xFF spoilt (size ++ replicate 36 255)

abbrev abc : List ℕ
abc = 0x41 ∷ 0x42 ∷ 0x43 ∷ []

abbrev written : List ℕ → List ℕ
written bs = holding 64 8 ((0x8E ∷ 0x00 ∷ 0xFF ∷ 3 ∷ 0x41 ∷ 0x42 ∷ 0x43 ∷ []) ++ bs)

abbrev pub others : List Bool
others =
    ends (run (Units 9) (delete_invalid_objects (chip 1 Word4)) (both (unfinished free) (3 ∷ 0 ∷ 28 ∷ 0 ∷ []))) 10 (Units 8)
    (λ s. same s.image (unfinished (0 ∷ 0xFF ∷ 0xFF ∷ 0xFF ∷ [])) && same s.table (3 ∷ 0 ∷ 28 ∷ 0 ∷ []))
    ∷ ends (run (Units 9) (write_all (chip 1 Word1) 0 (0x8E ∷ 8 ∷ 0 ∷ 3 ∷ 0x8E ∷ 15 ∷ 0 ∷ 1 ∷ []) abc) (both (holding 64 19 (0x7F ∷ [])) (0 ∷ []))) 10 (Units 2)
    (λ s. same s.image (written (0x8E ∷ 0xFF ∷ 0xFF ∷ 0xFF ∷ 0x7F ∷ [])) && same s.table (1 ∷ []))
    ∷ ends (run (Units 9) (twins.sweep (chip 1 Word1)) (both blank_block (0 ∷ 0 ∷ []))) 14 (Units 9) (λ s. same s.image blank_block && same s.table (0 ∷ 0 ∷ []))
    ∷ ends (run (Units 9) (twins.sweep (blocks 1 Word1)) (both blank_block (0 ∷ 0 ∷ []))) 0 (Units 9) (λ s. same s.image blank_block)
    ∷ []
