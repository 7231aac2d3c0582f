-- The starred rows, as one table under one theorem, over the definitions that the contracts cite. Each row is a test of what these compute.
use Rattle.std.specs.Prelude.{Bool, true, false, ◌&&◌, not, List, [], ◌∷◌, ◌++◌, ℕ, ◌+◌, ◌-◌, get_or, replicate, eqb, Option, Some, None}
use Rattle.medium.specs.declared.granularity.Granularity.{Granularity}
use Rattle.medium.specs.declared.granularity.Granularity.TheVariants.{Bit, Word1, Word4}
use Rattle.medium.specs.declared.fuse.Fuse.TheVariants.{Absent, Units}
use Rattle.medium.specs.Operation.{Answer, done, refused, Op, ◌>>=◌, refuse, run, number_of}
use Rattle.medium.specs.Bench.{four, holding, same, row, quiet}
use Rattle.objects.specs.declared.types.ObjectType.TheVariants.{FileData}
use Rattle.objects.specs.declared.state.ObjectState.TheVariants as state
use Rattle.objects.specs.declared.state.CompositeObjectState.{CompositeObjectState}
use Rattle.objects.specs.declared.state.CompositeObjectState.TheVariants as comp
use Rattle.objects.specs.declared.location.ObjectLocation.{ObjectLocation}
use Rattle.objects.specs.declared.header.ObjectHeader.{ObjectHeader}
use Rattle.objects.specs.declared.reader.ObjectReader.{ObjectReader}
use Rattle.objects.specs.Types.{type_byte, rank_of}
use Rattle.objects.specs.Header.{state_at, header_at, payload_size_of, update_state}
use Rattle.objects.specs.Info.{info_at, total_of, span_of}
use Rattle.objects.specs.Reader.{Chunk, reader_at, read_some}
use Rattle.objects.specs.Listing.{Visit, Stop, end, free, broken, listing}
use Rattle.blocks.specs.declared.header.BlockHeader.{BlockHeader}
use Rattle.blocks.specs.declared.header.BlockType.TheVariants.{Metadata}
use Rattle.blocks.specs.BlockHeader.{kind_number, block_header_at}
use Rattle.blocks.specs.Format.{format_block, set_block_type}
use Rattle.writer.specs.declared.writer.ObjectWriter.{ObjectWriter}
use Rattle.writer.specs.Writer.{allocate, write_some, finalize, delete, write_to}
use Rattle.moving.specs.Moving.{move_object}

-- ---- A is `four Bit`, B is `four Word4`, C is `four Word1`

abbrev place : ℕ → ℕ → ObjectLocation
place b o = record { block = b; offset = o }

abbrev pub blank : List ℕ
blank = replicate 1024 255

-- "Obj" is FileData of chunks 41 42 and 43
abbrev obj : Granularity → ℕ → Op ObjectWriter
obj k at = do
  w ← allocate (four k) (place 0 at) FileData
  w₁ ← write_some (four k) w (0x41 ∷ 0x42 ∷ [])
  w₂ ← write_some (four k) w₁ (0x43 ∷ [])
  finalize (four k) w₂

-- ---- rows 1 to 3: the bytes, the total, the next offset

abbrev bytes_test : Granularity → ℕ → ℕ → ℕ → Answer ObjectWriter → Bool
bytes_test k at total next (done w) = eqb (total_of k 1 w.object) total && eqb (at + span_of k 1 w.object) next
bytes_test k at total next (refused n) = false

abbrev written : Granularity → ℕ → List ℕ → ℕ → ℕ → Bool
written k at bs total next =
    let e = run Absent (obj k at) blank in
    bytes_test k at total next e.answer && same e.state (holding 1024 at bs)

-- ---- row 4: the state after a cut. Free 0, Allocated 1, Finalized 2, Deleted 3

abbrev rank_in : Answer CompositeObjectState → ℕ
rank_in (done s) = rank_of s
rank_in (refused n) = 9

abbrev cut_at : ℕ → ℕ → Bool
cut_at k rank = let e = run (Units k) (obj Bit 8) blank in eqb (rank_in (state_at (four Bit) (place 0 8) e.state)) rank

-- ---- row 5: an object that fills the block from 8 on up to an offset, and an empty one behind it

abbrev filled : ℕ → List ℕ
filled at = holding 1024 8 (0x8E ∷ 0xF0 ∷ (at - 11) ∷ replicate (at - 11) 0x41 ++ 0x8E ∷ 0xF0 ∷ 0x00 ∷ [])

abbrev offsets : List Visit → List ℕ
offsets [] = []
offsets (v ∷ vs) = v.offset ∷ offsets vs

abbrev at_end : Stop → Bool
at_end end = true
at_end free = false
at_end (broken n) = false

abbrev listed : ℕ → List ℕ → Bool
listed at visits =
    let l = listing (four Bit) 0 (filled at) in
    eqb (rank_in (state_at (four Bit) (place 0 at) (filled at))) 2 && same (offsets l.visits) visits && at_end l.stop

-- ---- row 6: bytes that are no header

abbrev corrupted : List ℕ → Bool
corrupted bs =
    let img = holding 1024 8 bs in
    eqb (number_of (header_at (four Bit) (place 0 8) img)) 2 && eqb (number_of (info_at (four Bit) (place 0 8) img)) 2

-- ---- row 7: an unset size

abbrev is_unset : Option ℕ → Bool
is_unset (Some n) = false
is_unset None = true

abbrev unset_test : Answer ObjectHeader → ℕ → Bool
unset_test (done h) total = is_unset (payload_size_of 1 h) && eqb (total_of Bit 1 h) total
unset_test (refused n) total = false

abbrev unset : List ℕ → ℕ → Bool
unset bs total = unset_test (header_at (four Bit) (place 0 8) (holding 1024 8 bs)) total

-- ---- row 8: a Deleted object, by its writer and by its header

abbrev by_writer : Granularity → Answer ObjectWriter → List ℕ → Bool
by_writer k (done w) img = quiet (delete (four k) w img) 0 && quiet (finalize (four k) w img) 4
by_writer k (refused n) img = false

abbrev by_header : Granularity → Answer ObjectHeader → List ℕ → Bool
by_header k (done h) img =
    eqb (rank_of h.state) 3 && quiet (update_state (four k) h state.Deleted img) 0
    && quiet (update_state (four k) h state.Finalized img) 4
by_header k (refused n) img = false

abbrev deleted_twice : Granularity → ℕ → Bool
deleted_twice k at =
    let e = run Absent (obj k at >>= delete (four k)) blank in
    by_writer k e.answer e.state && by_header k (header_at (four k) (place 0 at) e.state) e.state

-- ---- rows 9 and 10: a block's header, and FF behind it

abbrev headed : List ℕ → List ℕ
headed bs = holding 1024 0 bs

-- a Data block whose erase count is FFFFFF00 and n
abbrev worn : ℕ → List ℕ
worn n = headed (0xBA ∷ 0x01 ∷ 0x44 ∷ 0xAA ∷ n ∷ 0xFF ∷ 0xFF ∷ 0xFF ∷ [])

-- the same as an Undefined block with the last count
abbrev formatted : List ℕ
formatted = headed (0xBA ∷ 0x01 ∷ 0x44 ∷ 0xFF ∷ 0xFF ∷ 0xFF ∷ 0xFF ∷ 0xFF ∷ [])

-- a block of a type byte, erase count 0
abbrev typed : ℕ → List ℕ
typed t = headed (0xBA ∷ 0x01 ∷ 0x44 ∷ t ∷ 0 ∷ 0 ∷ 0 ∷ 0 ∷ [])

abbrev pub kind_in : Answer BlockHeader → ℕ
kind_in (done h) = kind_number h.kind
kind_in (refused n) = 9

-- ---- row 11: row 1's object moved to block 2, offset 8; an object is there that reads finished, with type and payload

abbrev is_payload : Answer Chunk → Bool
is_payload (done k) = same k.bytes (0x41 ∷ 0x42 ∷ 0x43 ∷ [])
is_payload (refused n) = false

abbrev is_data : CompositeObjectState → Bool
is_data comp.Free = false
is_data (comp.Allocated t d) = eqb (type_byte t) (type_byte FileData)

abbrev is_obj : List ℕ → Answer ObjectReader → Bool
is_obj img (done r) = is_data r.object.state && is_payload (read_some (four Bit) r 16 img)
is_obj img (refused n) = false

abbrev reads : ℕ → List ℕ → Bool
reads b img = is_obj img (reader_at (four Bit) (place b 8) false img)

abbrev moving : Answer ObjectHeader → Op ObjectHeader
moving (done h) = move_object (four Bit) h (place 2 8)
moving (refused n) = refuse n

abbrev iff : Bool → Bool → Bool
iff true b = b
iff false b = not b

abbrev moved : ℕ → Bool → Bool → Bool
moved k original copy =
    let i = run Absent (obj Bit 8) blank in
    let e = run (Units k) (moving (header_at (four Bit) (place 0 8) i.state)) i.state in
    iff original (reads 0 e.state) && iff copy (reads 2 e.state)

-- ---- row 12: room for an object

abbrev room : ℕ → ℕ → Bool
room n answer =
    let e = run Absent (write_to (four Bit) (place 0 8) FileData (replicate n 0x41)) blank in
    eqb (number_of e.answer) answer && eqb (get_or e.state 8 0) 0x8E

-- ---- the table

abbrev pub table : List Bool
table =
    -- 1. A, Obj at 8: `8E F0 03 41 42 43`; next offset 14
    written Bit 8 (0x8E ∷ 0xF0 ∷ 0x03 ∷ 0x41 ∷ 0x42 ∷ 0x43 ∷ []) 6 14
    -- 2. C, Obj at 8: `8E 00 FF 03 41 42 43`; next 15
    ∷ written Word1 8 (0x8E ∷ 0x00 ∷ 0xFF ∷ 0x03 ∷ 0x41 ∷ 0x42 ∷ 0x43 ∷ []) 7 15
    -- 3. B, Obj at 12: total 19, next 32
    ∷ written Word4 12 (0x8E ∷ 0xFF ∷ 0xFF ∷ 0xFF ∷ 0x00 ∷ 0xFF ∷ 0xFF ∷ 0xFF ∷ 0xFF ∷ 0xFF ∷ 0xFF ∷ 0xFF ∷ 0x03 ∷ 0xFF ∷ 0xFF ∷ 0xFF ∷ 0x41 ∷ 0x42 ∷ 0x43 ∷ 0xFF ∷ []) 19 32
    -- 4. Row 1 under fuse 0: Free; 1 to 5: Allocated; 6: Finalized
    ∷ cut_at 0 0 ∷ cut_at 1 1 ∷ cut_at 2 1 ∷ cut_at 3 1 ∷ cut_at 4 1 ∷ cut_at 5 1 ∷ cut_at 6 2
    -- 5. A, empty last object: listed at 252, not at 253
    ∷ listed 252 (8 ∷ 252 ∷ []) ∷ listed 253 (8 ∷ [])
    -- 6. A, state byte F1, or type 8C: 2
    ∷ corrupted (0x8E ∷ 0xF1 ∷ 0x03 ∷ 0x41 ∷ 0x42 ∷ 0x43 ∷ []) ∷ corrupted (0x8C ∷ 0xF0 ∷ 0x03 ∷ 0x41 ∷ 0x42 ∷ 0x43 ∷ [])
    -- 7. A, size byte FF: unset, total 3
    ∷ unset (0x8E ∷ 0xF0 ∷ 0xFF ∷ 0x41 ∷ 0x42 ∷ 0x43 ∷ []) 3
    -- 8. Delete of a Deleted object: 0, nothing stored; finalize of it: 4
    ∷ deleted_twice Bit 8 ∷ deleted_twice Word1 8 ∷ deleted_twice Word4 12
    -- 9. Format of a Data block, erase count 4,294,967,295: 2, nothing stored; 4,294,967,294: header with 4,294,967,295
    ∷ row Absent (format_block (four Bit) 0) (worn 0xFF) 2 Absent (worn 0xFF) ∷ row Absent (format_block (four Bit) 0) (worn 0xFE) 0 Absent formatted
    -- 10. Metadata set on a Data block: type byte 00, kind Unknown
    ∷ eqb (kind_in (block_header_at (four Bit) 0 (typed 0xAA))) 3 ∷ row Absent (set_block_type (four Bit) 0 Metadata) (typed 0xAA) 0 Absent (typed 0x00) ∷ eqb (kind_in (block_header_at (four Bit) 0 (typed 0x00))) 1
    -- 11. A, row 1 moved to block 2, offset 8: fuse 5 original only, 6 both, 7 copy only
    ∷ moved 5 true false ∷ moved 6 true true ∷ moved 7 false true
    -- 12. A, `write_to` at 8: 245 bytes done; 246 give 5 and byte 8 is 8E
    ∷ room 245 0 ∷ room 246 5
    ∷ []
