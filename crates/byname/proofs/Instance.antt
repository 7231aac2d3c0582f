-- What is asked for can be met: a street of one letter with one byte of content, its metadata moved to an earlier block.
use mathlib.Core.Path.{◌≡◌, refl, ap}
use mathlib.Core.Logic.{inr, ◌≢◌}
use mathlib.Core.Bool.{true, false, false≢true}
use mathlib.Core.List.{List, [], ◌∷◌, ◌++◌}
use Prim.Native.Nat.{ℕ, zero, suc, ◌<◌}
use native.Mathlib.Omega.{arith}
use lib.Dec.{lit<, lit≤}
use Rattle.medium.specs.declared.granularity.Granularity.TheVariants.{Bit}
use Rattle.medium.specs.declared.geometry.Geometry.{Geometry}
use Rattle.medium.specs.Geometry.{geometry_ok, admit}
use Rattle.medium.specs.Operation.{done}
use Rattle.medium.specs.Bench.{blocks, holding}
use Rattle.medium.specs.Medium.{readable, read_at}
use Rattle.objects.specs.declared.types.ObjectType.TheVariants.{FileMetadata}
use Rattle.objects.specs.declared.state.ObjectDataState.TheVariants.{Valid}
use Rattle.objects.specs.declared.state.CompositeObjectState.TheVariants.{Allocated}
use Rattle.objects.specs.declared.location.ObjectLocation.{ObjectLocation}
use Rattle.objects.specs.declared.header.ObjectHeader.{ObjectHeader}
use Rattle.objects.specs.declared.metadata.MetadataObjectHeader.{MetadataObjectHeader}
use Rattle.objects.specs.Types.{type_of, mark_of, marks_of, state_in}
use Rattle.objects.specs.Header.{state_at, sized_at, header_at, payload_size_of, payload_of}
use Rattle.objects.specs.Info.{info_at, total_of}
use Rattle.objects.specs.Payload.{equal}
use Rattle.objects.specs.Reader.{reader_at}
use Rattle.objects.specs.Metadata.{number_at, location_at, read_metadata, listable, next_location}
use Rattle.objects.specs.Listing.{next_of, list_from, listing}
use Rattle.blocks.specs.declared.header.BlockType.TheVariants.{Metadata}
use Rattle.blocks.specs.BlockHeader.{padded, marked, blank, kind_of_type, named_kind, kind_in, block_header_at}
use Rattle.storage.specs.Order.{is_of}
use Rattle.storage.specs.Lookup.{same_from, is_name, is_named}
use Rattle.storage.specs.File.{places_from}
use Rattle.powercut.specs.Demand.{payload_in, Movable}
use Rattle.powercut.specs.Listed.{Listable}
use Rattle.powercut.specs.Scans.{Ended}
use Rattle.fresh.specs.Scans.{Untyped}
use Rattle.byname.specs.Street.{NameOutside, Others, Street, Looked, FoundAtEveryCut, Contents, SameFile, ReadsTheSame, Times, TwiceBetween}
use Rattle.medium.proofs.Computed.{bytes_by, blank_by}
use Rattle.byname.proofs.Cut.{found_at_every_cut}
use Rattle.byname.proofs.Times.{twice_between}
use Rattle.byname.proofs.Contents.{reads_the_same}

abbrev pub chip : Geometry
chip = blocks 3 Bit

abbrev headed : ℕ → List ℕ → List ℕ
headed type bs = holding 64 0 ((0xBA ∷ 0x01 ∷ 0x44 ∷ type ∷ 0 ∷ 0 ∷ 0 ∷ 0 ∷ []) ++ bs)

-- an empty Metadata block, one with the street's metadata at 8, and a Data block with its name at 8 and its content at 12
abbrev pub store : List ℕ
store =
    headed 0x55 [] ++ headed 0x55 (0x8F ∷ 0xF0 ∷ 8 ∷ 7 ∷ 0 ∷ 0 ∷ 0 ∷ 2 ∷ 8 ∷ 2 ∷ 12 ∷ [])
    ++ headed 0xAA (0x8D ∷ 0xF0 ∷ 1 ∷ 0x41 ∷ 0x8E ∷ 0xF0 ∷ 1 ∷ 0x31 ∷ [])

abbrev pub at : ℕ → ℕ → ObjectLocation
at b o = record { block = b; offset = o }

abbrev pub street : ObjectHeader
street = record { state = Allocated FileMetadata Valid; size = 8; location = at 1 8 }

abbrev read : MetadataObjectHeader
read = record { object = street; hash = 7; name = at 2 8; cursor = 0 }

pub movable : Movable chip street (at 0 8) 56 FileMetadata store
unfolding geometry_ok admit readable read_at type_of mark_of marks_of state_in state_at sized_at header_at payload_of total_of
movable =
    record {
      fine = refl;
      bytes = bytes_by store tt;
      free_mark = λ z. absurd (omega arith);
      just_read = refl;
      finished = refl;
      aligned = refl;
      whole = lit≤ tt;
      block = lit< tt;
      in_block = lit≤ tt;
      erased = blank_by 8 56 store refl;
      aligned_to = refl;
      large = lit≤ tt;
      apart = inr (lit≤ tt);
    }

pub listable_there : Listable chip street (at 0 8) 56 store
unfolding geometry_ok admit readable read_at type_of mark_of marks_of state_in state_at sized_at header_at payload_of total_of info_at next_of list_from listing
listable_there =
    record {
      listed = record { before = []; after = []; is = refl };
      to_end = refl;
      last = refl;
      stop = refl;
    }

-- the third block is none of the order
no_third : is_of chip Metadata 2 store ≡ done true → ⊥
unfolding geometry_ok admit readable read_at padded marked blank kind_of_type named_kind kind_in block_header_at is_of
no_third e = let z : false ≡ true = cc in absurd (false≢true z)

outside_name : NameOutside chip (0x41 ∷ []) 7 street (at 0 8) store street
unfolding geometry_ok admit readable read_at number_at location_at read_metadata
outside_name m e h =
    let z : read ≡ m = cc in
    let y : 2 ≡ m.name.block = ap (λ (x : MetadataObjectHeader). x.name.block) z in
    (λ q. omega arith, λ q. omega arith)

ended_all : (b : ℕ) → b < 3 → is_of chip Metadata b store ≡ done true → Ended (listing chip b store).stop
unfolding geometry_ok admit readable read_at type_of mark_of marks_of state_in state_at sized_at header_at payload_of total_of info_at next_of list_from listing
ended_all zero l e = inr refl
ended_all (suc zero) l e = inr refl
ended_all (suc (suc zero)) l e = absurd (no_third e)
ended_all (suc (suc (suc b))) l e = absurd (omega arith)

others_all : (b : ℕ) → b < 3 → is_of chip Metadata b store ≡ done true → b ≢ 1 → Others chip (0x41 ∷ []) 7 street (at 0 8) store (listing chip b store).visits
unfolding geometry_ok admit readable read_at type_of mark_of marks_of state_in state_at sized_at header_at payload_of total_of info_at next_of list_from listing
others_all zero l e n = tt
others_all (suc zero) l e n = absurd (n refl)
others_all (suc (suc zero)) l e n = absurd (no_third e)
others_all (suc (suc (suc b))) l e n = absurd (omega arith)

the_street : Street chip (0x41 ∷ []) 7 street (at 0 8) store 56 listable_there
unfolding geometry_ok admit readable read_at type_of mark_of marks_of state_in state_at sized_at header_at payload_of total_of info_at padded marked blank kind_of_type named_kind kind_in block_header_at is_of equal reader_at number_at location_at read_metadata same_from is_name is_named listable_there
the_street =
    record {
      kind = refl;
      kind-to = refl;
      listed = ended_all;
      elsewhere = others_all;
      before = tt;
      after = tt;
      long = lit≤ tt;
      named = refl;
      outside = outside_name;
    }

contents : Contents chip street (at 0 8) store
unfolding geometry_ok admit readable read_at payload_of payload_size_of number_at location_at read_metadata listable next_location places_from
contents = record { long = lit≤ tt; whole = refl; metadata = read; opens = refl; outside = ((λ q. omega arith, λ q. omega arith), tt) }

-- its hash does not begin with a type
untyped : Untyped (payload_in chip street store)
unfolding payload_of
untyped = record { some = lit< tt; no_metadata = λ e. omega arith; no_data = λ e. omega arith; no_name = λ e. omega arith }

pub looked_up : Looked chip (0x41 ∷ []) 7 street (at 0 8) store
unfolding FoundAtEveryCut
looked_up = found_at_every_cut chip (0x41 ∷ []) 7 street (at 0 8) 56 FileMetadata store movable listable_there the_street

pub listed_times : Times chip (0x41 ∷ []) 7 street (at 0 8) store
unfolding TwiceBetween
listed_times = twice_between chip (0x41 ∷ []) 7 street (at 0 8) 56 FileMetadata store movable listable_there the_street

pub read_again : (k : ℕ) → SameFile chip street (at 0 8) store k
unfolding ReadsTheSame
read_again k = reads_the_same chip street (at 0 8) 56 FileMetadata store movable contents k
