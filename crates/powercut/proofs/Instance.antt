-- The demand is not empty: the objects of rows 1, 2 and 3, one of each granularity, moved to block 2, meet what is given. The first is row 11.
use mathlib.Core.Path.{◌≡◌, refl}
use mathlib.Core.Logic.{inl}
use mathlib.Core.List.{List, [], ◌∷◌}
use Prim.Native.Nat.{ℕ}
use native.Mathlib.Omega.{arith}
use lib.Dec.{lit<, lit≤}
use Rattle.medium.specs.declared.granularity.Granularity.TheVariants.{Bit, Word1, Word4}
use Rattle.medium.specs.declared.fuse.Fuse.TheVariants.{Absent, Units}
use Rattle.medium.specs.Geometry.{geometry_ok, admit}
use Rattle.medium.specs.Operation.{◌>>=◌, ask, test, putting, run}
use Rattle.medium.specs.Bench.{four, holding}
use Rattle.medium.specs.Strict.{not_erased}
use Rattle.medium.specs.Medium.{readable, writable, storable, read_at, write}
use Rattle.objects.specs.declared.types.ObjectType.TheVariants.{FileData}
use Rattle.objects.specs.declared.state.ObjectDataState.TheVariants.{Valid}
use Rattle.objects.specs.declared.state.CompositeObjectState.TheVariants.{Allocated}
use Rattle.objects.specs.declared.location.ObjectLocation.{ObjectLocation}
use Rattle.objects.specs.declared.header.ObjectHeader.{ObjectHeader}
use Rattle.objects.specs.Types.{type_of, mark_of, pair_of, marks_of, state_in}
use Rattle.objects.specs.Header.{state_at, sized_at, header_at, payload_of, allocatable_of, marking, set_state, sizable_of, set_payload_size}
use Rattle.objects.specs.Info.{info_at, total_of}
use Rattle.objects.specs.Payload.{equal}
use Rattle.objects.specs.Reader.{reader_at, remaining_of, left_of, read_some}
use Rattle.objects.specs.Listing.{next_of, list_from, listing}
use Rattle.writer.specs.Writer.{sound_of, allocate, may_write, put_bytes, write_some, may_finish, flush, close, finalize}
use Rattle.moving.specs.Moving.{source_at, chunk, copying, copy_object, move_object}
use Rattle.powercut.specs.Demand.{payload_in, Movable, units_to, Survives, Demand}
use Rattle.powercut.specs.Listed.{payload_read, is_copy, Listable, copies_before, copies_after, Counted, Listings}
use Rattle.medium.proofs.Computed.{bytes_by, blank_by}
use Rattle.powercut.proofs.Survive.{demand}
use Rattle.powercut.proofs.Listed.{listings}

-- ---- A, C and B with the object of rows 1, 2 and 3

abbrev place : ℕ → ℕ → ObjectLocation
place b o = record { block = b; offset = o }

abbrev object : ℕ → ObjectHeader
object at = record { state = Allocated FileData Valid; size = 3; location = place 0 at }

abbrev image_a : List ℕ
image_a = holding 1024 8 (0x8E ∷ 0xF0 ∷ 0x03 ∷ 0x41 ∷ 0x42 ∷ 0x43 ∷ [])

abbrev image_c : List ℕ
image_c = holding 1024 8 (0x8E ∷ 0x00 ∷ 0xFF ∷ 0x03 ∷ 0x41 ∷ 0x42 ∷ 0x43 ∷ [])

abbrev image_b : List ℕ
image_b = holding 1024 12 (0x8E ∷ 0xFF ∷ 0xFF ∷ 0xFF ∷ 0x00 ∷ 0xFF ∷ 0xFF ∷ 0xFF ∷ 0xFF ∷ 0xFF ∷ 0xFF ∷ 0xFF ∷ 0x03 ∷ 0xFF ∷ 0xFF ∷ 0xFF ∷ 0x41 ∷ 0x42 ∷ 0x43 ∷ 0xFF ∷ [])

pub movable_bit : Movable (four Bit) (object 8) (place 2 8) 6 FileData image_a
unfolding geometry_ok admit readable read_at type_of mark_of marks_of state_in state_at sized_at header_at payload_of total_of
movable_bit =
    record {
      fine = refl;
      bytes = bytes_by image_a tt;
      free_mark = λ z. absurd (omega arith);
      just_read = refl;
      finished = refl;
      aligned = refl;
      whole = lit≤ tt;
      block = lit< tt;
      in_block = lit≤ tt;
      erased = blank_by 520 6 image_a refl;
      aligned_to = refl;
      large = lit≤ tt;
      apart = inl (lit≤ tt);
    }

pub movable_byte : Movable (four Word1) (object 8) (place 2 8) 7 FileData image_c
unfolding geometry_ok admit readable read_at type_of pair_of marks_of state_in state_at sized_at header_at payload_of total_of
movable_byte =
    record {
      fine = refl;
      bytes = bytes_by image_c tt;
      free_mark = λ z. absurd (omega arith);
      just_read = refl;
      finished = refl;
      aligned = refl;
      whole = lit≤ tt;
      block = lit< tt;
      in_block = lit≤ tt;
      erased = blank_by 520 7 image_c refl;
      aligned_to = refl;
      large = lit≤ tt;
      apart = inl (lit≤ tt);
    }

pub movable_word : Movable (four Word4) (object 12) (place 2 12) 20 FileData image_b
unfolding geometry_ok admit readable read_at type_of pair_of marks_of state_in state_at sized_at header_at payload_of total_of
movable_word =
    record {
      fine = refl;
      bytes = bytes_by image_b tt;
      free_mark = λ z. absurd (omega arith);
      just_read = refl;
      finished = refl;
      aligned = refl;
      whole = lit≤ tt;
      block = lit< tt;
      in_block = lit≤ tt;
      erased = blank_by 524 20 image_b refl;
      aligned_to = refl;
      large = lit≤ tt;
      apart = inl (lit≤ tt);
    }

-- ---- the same object moved back into its own block, right behind itself

pub movable_behind : Movable (four Bit) (object 8) (place 0 14) 242 FileData image_a
unfolding geometry_ok admit readable read_at type_of mark_of marks_of state_in state_at sized_at header_at payload_of total_of
movable_behind =
    record {
      fine = refl;
      bytes = bytes_by image_a tt;
      free_mark = λ z. absurd (omega arith);
      just_read = refl;
      finished = refl;
      aligned = refl;
      whole = lit≤ tt;
      block = lit< tt;
      in_block = lit≤ tt;
      erased = blank_by 14 242 image_a refl;
      aligned_to = refl;
      large = lit≤ tt;
      apart = inl (lit≤ tt);
    }

-- row 11: "fuse 5 original only, 6 both, 7 copy only"
pub row_eleven_units : units_to (four Bit) (object 8) ≡ 5
unfolding payload_of
row_eleven_units = refl

pub row_eleven_payload : payload_in (four Bit) (object 8) image_a ≡ 0x41 ∷ 0x42 ∷ 0x43 ∷ []
unfolding payload_of
row_eleven_payload = refl

pub row_eleven : (k : ℕ) → Survives (four Bit) (object 8) (place 2 8) FileData (payload_in (four Bit) (object 8) image_a) image_a k (run (Units k) (move_object (four Bit) (object 8) (place 2 8)) image_a)
unfolding Demand
row_eleven k = (demand (four Bit) (object 8) (place 2 8) 6 FileData image_a movable_bit).1 k

-- ---- listings: row 11's object in block 0, and the rest of block 2 as its destination; or the rest of its own block

pub movable_end : Movable (four Bit) (object 8) (place 2 8) 248 FileData image_a
unfolding geometry_ok admit readable read_at type_of mark_of marks_of state_in state_at sized_at header_at payload_of total_of
movable_end =
    record {
      fine = refl;
      bytes = bytes_by image_a tt;
      free_mark = λ z. absurd (omega arith);
      just_read = refl;
      finished = refl;
      aligned = refl;
      whole = lit≤ tt;
      block = lit< tt;
      in_block = lit≤ tt;
      erased = blank_by 520 248 image_a refl;
      aligned_to = refl;
      large = lit≤ tt;
      apart = inl (lit≤ tt);
    }

pub listable_end : Listable (four Bit) (object 8) (place 2 8) 248 image_a
unfolding geometry_ok admit readable read_at type_of mark_of marks_of state_in state_at sized_at header_at payload_of total_of info_at next_of list_from listing
listable_end =
    record {
      listed = record { before = []; after = []; is = refl };
      to_end = refl;
      last = refl;
      stop = refl;
    }

pub listable_behind : Listable (four Bit) (object 8) (place 0 14) 242 image_a
unfolding geometry_ok admit readable read_at type_of mark_of marks_of state_in state_at sized_at header_at payload_of total_of info_at next_of list_from listing
listable_behind =
    record {
      listed = record { before = []; after = []; is = refl };
      to_end = refl;
      last = refl;
      stop = refl;
    }

-- one before the move, so that the listings show 1, 2 and 1
pub row_eleven_copies : copies_before (four Bit) (object 8) (place 2 8) FileData image_a ≡ 1
unfolding geometry_ok admit readable read_at type_of mark_of marks_of state_in state_at sized_at header_at payload_of total_of info_at next_of list_from listing reader_at remaining_of left_of read_some equal payload_read is_copy
row_eleven_copies = refl

pub row_eleven_counted : Counted (four Bit) (object 8) (place 2 8) FileData image_a
unfolding Listings
row_eleven_counted = listings (four Bit) (object 8) (place 2 8) 248 FileData image_a movable_end listable_end

-- ---- why a header has to fit behind: an empty object that is moved to end with its block reads whole there, and no listing shows it any more

abbrev image_empty : List ℕ
image_empty = holding 1024 8 (0x8E ∷ 0xF0 ∷ 0x00 ∷ [])

abbrev empty : ObjectHeader
empty = record { state = Allocated FileData Valid; size = 0; location = place 0 8 }

pub movable_last : Movable (four Bit) empty (place 2 253) 3 FileData image_empty
unfolding geometry_ok admit readable read_at type_of mark_of marks_of state_in state_at sized_at header_at payload_of total_of
movable_last =
    record {
      fine = refl;
      bytes = bytes_by image_empty tt;
      free_mark = λ z. absurd (omega arith);
      just_read = refl;
      finished = refl;
      aligned = refl;
      whole = lit≤ tt;
      block = lit< tt;
      in_block = lit≤ tt;
      erased = blank_by 765 3 image_empty refl;
      aligned_to = refl;
      large = lit≤ tt;
      apart = inl (lit≤ tt);
    }

pub not_listed : (copies_before (four Bit) empty (place 2 253) FileData image_empty ≡ 1) × (copies_after (four Bit) empty (place 2 253) FileData image_empty Absent ≡ 0)
unfolding geometry_ok admit ◌>>=◌ ask test putting run readable writable storable not_erased read_at write type_of mark_of marks_of state_in state_at sized_at header_at payload_of total_of allocatable_of marking set_state sizable_of set_payload_size info_at next_of list_from listing reader_at remaining_of left_of read_some sound_of allocate may_write put_bytes write_some may_finish flush close finalize source_at chunk copying copy_object move_object equal payload_read is_copy
not_listed = (refl, refl)
