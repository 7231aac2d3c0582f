-- Computed rows, over two blocks of 64 bytes: row 11's move at each cut, why each condition of the demand is there, and which cuts leave a
-- block that cannot be listed. Each image is a smallest one.
use Rattle.std.specs.Prelude.{◌≡◌, refl, Bool, true, false, not, ◌&&◌, ◌||◌, List, [], ◌∷◌, ◌++◌, ℕ, zero, suc, ◌+◌, ◌%◌, length, get_or, replicate, leb, ltb, eqb}
use Rattle.std.proofs.Math.Pow.{are_bytes}
use Rattle.medium.specs.declared.granularity.Granularity.{Granularity}
use Rattle.medium.specs.declared.granularity.Granularity.TheVariants.{Bit, Word1, Word4}
use Rattle.medium.specs.declared.geometry.Geometry.{Geometry}
use Rattle.medium.specs.declared.fuse.Fuse.{Fuse}
use Rattle.medium.specs.declared.fuse.Fuse.TheVariants.{Absent, Units}
use Rattle.medium.specs.Granularity.{pick, width_of}
use Rattle.medium.specs.Geometry.{geometry_ok, admit, check_of}
use Rattle.medium.specs.Operation.{Answer, done, refused, ◌>>=◌, ask, test, putting, run, number_of}
use Rattle.medium.specs.Bench.{blocks, holding, all, same}
use Rattle.medium.specs.Strict.{not_erased}
use Rattle.medium.specs.Medium.{part, readable, writable, storable, read_at, write}
use Rattle.objects.specs.declared.types.ObjectType.TheVariants.{FileData}
use Rattle.objects.specs.declared.state.ObjectDataState.TheVariants.{Valid}
use Rattle.objects.specs.declared.state.CompositeObjectState.TheVariants.{Allocated}
use Rattle.objects.specs.declared.location.ObjectLocation.{ObjectLocation}
use Rattle.objects.specs.declared.header.ObjectHeader.{ObjectHeader}
use Rattle.objects.specs.Types.{type_of, mark_of, pair_of, marks_of, rank_of, state_in}
use Rattle.objects.specs.Header.{state_at, sized_at, header_at, payload_of, allocatable_of, marking, set_state, sizable_of, set_payload_size}
use Rattle.objects.specs.Info.{info_at, total_of, span_of}
use Rattle.objects.specs.Payload.{equal}
use Rattle.objects.specs.Reader.{reader_at, remaining_of, left_of, read_some}
use Rattle.objects.specs.Listing.{Stop, end, free, broken, next_of, list_from, listing}
use Rattle.blocks.specs.BlockHeader.{padded, marked, blank, kind_of_type, named_kind, kind_in, block_header_at}
use Rattle.blocks.specs.Scan.{scan_unknown, scan_block}
use Rattle.writer.specs.Writer.{sound_of, allocate, may_write, put_bytes, write_some, may_finish, flush, close, finalize}
use Rattle.moving.specs.Moving.{source_at, chunk, copying, copy_object, move_object}
use Rattle.powercut.specs.Demand.{address_of, payload_in}
use Rattle.powercut.specs.Listed.{payload_read, is_payload, is_copy, copies_before, copies_after}
use Rattle.powercut.specs.Again.{left_by}
use Rattle.powercut.specs.Scans.{stop_after}

-- ---- A's, C's and B's widths, with two blocks of 64 bytes, and A's with sizes of two bytes

abbrev two : Granularity → Geometry
two k = blocks 2 k

abbrev small : Geometry
small = two Bit

abbrev two_bytes : ℕ → Geometry
two_bytes n = record { granularity = Bit; s = 2; c = 1; strict = 0; size = n; count = 2 }

abbrev place : ℕ → ℕ → ObjectLocation
place b o = record { block = b; offset = o }

-- a finished data object of n bytes at an offset of block 0
abbrev object_at : ℕ → ℕ → ObjectHeader
object_at o n = record { state = Allocated FileData Valid; size = n; location = place 0 o }

abbrev object : ℕ → ObjectHeader
object n = object_at 8 n

-- a block with some bytes at an offset, and FF
abbrev block : ℕ → List ℕ → List ℕ
block o bs = holding 64 o bs

abbrev abc : List ℕ
abc = 0x8E ∷ 0xF0 ∷ 0x03 ∷ 0x41 ∷ 0x42 ∷ 0x43 ∷ []

-- ---- row 11's move under a fuse: its answer, the units left, the original's mark, and the seven bytes from the destination on

abbrev units_left : Fuse → ℕ
units_left Absent = 0
units_left (Units n) = n

abbrev moved : ℕ → ℕ → ℕ → ℕ → List ℕ → Bool
moved k number units mark bytes =
    let e = run (Units k) (move_object small (object 3) (place 1 8)) (block 8 abc ++ block 8 []) in
    eqb (number_of e.answer) number && eqb (units_left e.fuse) units && eqb (get_or e.state 9 0) mark && same (part 72 7 e.state) bytes

-- ---- the demand's conditions as tests, in its order, numbered from 0

-- all FF
abbrev erased : List ℕ → Bool
erased [] = true
erased (b ∷ bs) = eqb b 255 && erased bs

-- the header of a finished object, as it is read
abbrev same_header : Answer ObjectHeader → ObjectHeader → Bool
same_header (done k) h = eqb (rank_of k.state) 2 && eqb k.size h.size
same_header (refused n) h = false

abbrev conditions : ObjectHeader → ObjectLocation → ℕ → List ℕ → List Bool
conditions h to room img =
    let p = address_of small h.location in
    let q = address_of small to in
    eqb (check_of small (length img)) 0 ∷ are_bytes img ∷ same_header (header_at small h.location img) h
    ∷ eqb (h.location.offset % width_of small.granularity) 0
    ∷ leb (h.location.offset + total_of small.granularity small.s h) small.size
    ∷ ltb to.block small.count ∷ leb (to.offset + room) small.size ∷ erased (part q room img) ∷ eqb (to.offset % width_of small.granularity) 0
    ∷ leb (span_of small.granularity small.s h) room
    ∷ (leb (p + total_of small.granularity small.s h) q || leb (q + room) p)
    ∷ []

-- the numbers of those that fail
abbrev failing : ℕ → List Bool → List ℕ
failing i [] = []
failing i (b ∷ bs) = pick b (failing (suc i) bs) (i ∷ failing (suc i) bs)

-- the payload is read at neither place after k units
abbrev gone : ObjectHeader → ObjectLocation → List ℕ → ℕ → Bool
gone h to img k =
    let m = left_by small h to img k in
    not (is_payload (payload_read small h.location m) (payload_in small h img)) && not (is_payload (payload_read small to m) (payload_in small h img))

-- with one condition failing, the object is gone after k units
abbrev needed : ℕ → ObjectHeader → ObjectLocation → ℕ → List ℕ → ℕ → Bool
needed i h to room img k = same (failing 0 (conditions h to room img)) (i ∷ []) && gone h to img k

-- ---- listings of block 1 after a move to it

abbrev stop_number : Stop → ℕ
stop_number end = 0
stop_number free = 0
stop_number (broken n) = n

-- after each number of units below n, the last first
abbrev stops : Geometry → ObjectHeader → ObjectLocation → List ℕ → ℕ → List ℕ
stops g h to img zero = []
stops g h to img (suc n) = stop_number (stop_after g h to img n) ∷ stops g h to img n

-- a Data block, erased never, with an object or none behind its header
abbrev data_block_of : List ℕ → List ℕ
data_block_of bs = block 0 ((0xBA ∷ 0x01 ∷ 0x44 ∷ 0xAA ∷ 0x00 ∷ 0x00 ∷ 0x00 ∷ 0x00 ∷ []) ++ bs)

-- a scan of the destination's block, likewise
abbrev scans : ObjectHeader → ObjectLocation → List ℕ → ℕ → List ℕ
scans h to img zero = []
scans h to img (suc n) = number_of (scan_block small to.block (left_by small h to img n)) ∷ scans h to img n

-- ---- the same move again, after each number of units below n, the last first: its number, where it leaves what the uncut move leaves, or what it found

abbrev again : ObjectHeader → ObjectLocation → List ℕ → ℕ → List ℕ
again h to img zero = []
again h to img (suc n) =
    let e = run Absent (move_object small h to) (left_by small h to img n) in
    pick (same e.state (pick (eqb (number_of e.answer) 0) (run Absent (move_object small h to) img).state (left_by small h to img n))) (number_of e.answer) 99
    ∷ again h to img n

abbrev is_end : Stop → Bool
is_end end = true
is_end free = false
is_end (broken n) = false

-- an empty object moved to where a listing stops at its block's end, behind an object of 50 bytes: it is listed before the move, and not after
abbrev empty : List ℕ
empty = block 8 (0x8E ∷ 0xF0 ∷ 0x00 ∷ []) ++ block 8 (0x8E ∷ 0xF0 ∷ 0x32 ∷ replicate 50 0x41)

-- an object of three bytes where a unit is a word, and one of 255 bytes with a size of two, in blocks of 512
abbrev worded : List ℕ
worded = 0x8E ∷ 0xFF ∷ 0xFF ∷ 0xFF ∷ 0x00 ∷ 0xFF ∷ 0xFF ∷ 0xFF ∷ 0xFF ∷ 0xFF ∷ 0xFF ∷ 0xFF ∷ 0x03 ∷ 0xFF ∷ 0xFF ∷ 0xFF ∷ 0x41 ∷ 0x42 ∷ 0x43 ∷ 0xFF ∷ []

abbrev long : List ℕ
long = holding 1024 8 ((0x8E ∷ 0xF0 ∷ 0xFF ∷ 0x00 ∷ []) ++ replicate 255 0x41)

abbrev table : List Bool
table =
    -- type, payload, size, finish mark, delete mark: one unit each byte, and what is not used is left
    moved 0 8 0 0xF0 (0xFF ∷ 0xFF ∷ 0xFF ∷ 0xFF ∷ 0xFF ∷ 0xFF ∷ 0xFF ∷ [])
    ∷ moved 1 8 0 0xF0 (0x8E ∷ 0xFF ∷ 0xFF ∷ 0xFF ∷ 0xFF ∷ 0xFF ∷ 0xFF ∷ [])
    ∷ moved 2 8 0 0xF0 (0x8E ∷ 0xFF ∷ 0xFF ∷ 0x41 ∷ 0xFF ∷ 0xFF ∷ 0xFF ∷ [])
    ∷ moved 3 8 0 0xF0 (0x8E ∷ 0xFF ∷ 0xFF ∷ 0x41 ∷ 0x42 ∷ 0xFF ∷ 0xFF ∷ [])
    ∷ moved 4 8 0 0xF0 (0x8E ∷ 0xFF ∷ 0xFF ∷ 0x41 ∷ 0x42 ∷ 0x43 ∷ 0xFF ∷ [])
    ∷ moved 5 8 0 0xF0 (0x8E ∷ 0xFF ∷ 0x03 ∷ 0x41 ∷ 0x42 ∷ 0x43 ∷ 0xFF ∷ [])
    ∷ moved 6 8 0 0xF0 (0x8E ∷ 0xF0 ∷ 0x03 ∷ 0x41 ∷ 0x42 ∷ 0x43 ∷ 0xFF ∷ [])
    ∷ moved 7 0 0 0x00 (0x8E ∷ 0xF0 ∷ 0x03 ∷ 0x41 ∷ 0x42 ∷ 0x43 ∷ 0xFF ∷ [])
    ∷ moved 9 0 2 0x00 (0x8E ∷ 0xF0 ∷ 0x03 ∷ 0x41 ∷ 0x42 ∷ 0x43 ∷ 0xFF ∷ [])
    -- "erased": a byte of the destination is 00, and the copy reads otherwise
    ∷ needed 7 (object 3) (place 1 8) 6 (block 8 abc ++ block 12 (0x00 ∷ [])) 7
    -- "large enough": an object stands where the copy's payload is to go
    ∷ needed 9 (object 3) (place 1 8) 3 (block 8 abc ++ block 11 (0x8E ∷ 0xF0 ∷ 0x00 ∷ [])) 7
    -- "apart from the object": the destination lies in the original's own payload, which is all FF, so that its first unit changes it
    ∷ needed 10 (object 3) (place 0 11) 6 (block 8 (0x8E ∷ 0xF0 ∷ 0x03 ∷ []) ++ block 8 []) 1
    -- the free end of a block is not its end
    ∷ same (failing 0 (conditions (object 0) (place 1 61) 3 empty)) []
    ∷ is_end (listing small 1 empty).stop ∷ eqb (listing small 1 empty).last 61
    ∷ eqb (copies_before small (object 0) (place 1 61) FileData empty) 1 ∷ eqb (copies_after small (object 0) (place 1 61) FileData empty Absent) 0
    -- the listing of the destination's block is refused after units 2, 3 and 4 of 7
    ∷ same (stops small (object 3) (place 1 8) (block 8 abc ++ block 8 []) 8) (0 ∷ 0 ∷ 0 ∷ 2 ∷ 2 ∷ 2 ∷ 0 ∷ 0 ∷ [])
    ∷ same (stops (two Word1) (object 3) (place 1 8) (block 8 (0x8E ∷ 0x00 ∷ 0xFF ∷ 0x03 ∷ 0x41 ∷ 0x42 ∷ 0x43 ∷ []) ++ block 8 []) 8) (0 ∷ 0 ∷ 0 ∷ 2 ∷ 2 ∷ 2 ∷ 0 ∷ 0 ∷ [])
    -- after unit 2 of 5 where a unit is a word
    ∷ same (stops (two Word4) (object_at 12 3) (place 1 12) (block 12 worded ++ block 8 []) 6) (0 ∷ 0 ∷ 0 ∷ 2 ∷ 0 ∷ 0 ∷ [])
    -- a size of two bytes that is half stored reads large, and the listing steps past the block's end
    ∷ same (stops (two_bytes 64) (object 3) (place 1 8) (block 8 (0x8E ∷ 0xF0 ∷ 0x03 ∷ 0x00 ∷ 0x41 ∷ 0x42 ∷ 0x43 ∷ []) ++ block 8 []) 9) (0 ∷ 0 ∷ 0 ∷ 0 ∷ 2 ∷ 2 ∷ 2 ∷ 0 ∷ 0 ∷ [])
    -- but where its low byte is FF it still reads unset: 255 bytes, refused after unit 257 too, and not after unit 258
    ∷ same (stop_number (stop_after (two_bytes 512) (object 255) (place 1 8) long 257) ∷ stop_number (stop_after (two_bytes 512) (object 255) (place 1 8) long 258) ∷ []) (2 ∷ 0 ∷ [])
    -- and so is a scan of it
    ∷ same (scans (object 3) (place 1 8) (data_block_of abc ++ data_block_of []) 8) (0 ∷ 0 ∷ 0 ∷ 2 ∷ 2 ∷ 2 ∷ 0 ∷ 0 ∷ [])
    -- and at no cut where the payload begins with FF, or where no second header fits
    ∷ same (stops small (object 3) (place 1 8) (block 8 (0x8E ∷ 0xF0 ∷ 0x03 ∷ 0xFF ∷ 0x42 ∷ 0x43 ∷ []) ++ block 8 []) 8) (0 ∷ 0 ∷ 0 ∷ 0 ∷ 0 ∷ 0 ∷ 0 ∷ 0 ∷ [])
    ∷ same (stops small (object 3) (place 1 58) (block 8 abc ++ block 8 (0x8E ∷ 0xF0 ∷ 0x2F ∷ replicate 47 0x41)) 8) (0 ∷ 0 ∷ 0 ∷ 0 ∷ 0 ∷ 0 ∷ 0 ∷ 0 ∷ [])
    -- the same move again reaches the end of the uncut one up to unit 5, and is refused 4 between the marks
    ∷ same (again (object 3) (place 1 8) (block 8 abc ++ block 8 []) 7) (4 ∷ 0 ∷ 0 ∷ 0 ∷ 0 ∷ 0 ∷ 0 ∷ [])
    ∷ []

pub rows : all table ≡ true
unfolding geometry_ok admit ◌>>=◌ ask test putting run readable writable storable not_erased read_at write type_of mark_of pair_of marks_of state_in state_at sized_at header_at payload_of total_of allocatable_of marking set_state sizable_of set_payload_size info_at next_of list_from listing reader_at remaining_of left_of read_some sound_of allocate may_write put_bytes write_some may_finish flush close finalize source_at chunk copying copy_object move_object equal payload_read is_copy kind_of_type marked blank padded named_kind kind_in block_header_at scan_unknown scan_block
rows = refl
