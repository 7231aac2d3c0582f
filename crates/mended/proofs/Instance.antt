-- What is asked for can be met: the street of one letter of crates/byname/proofs/Instance.antt, its metadata moved to an earlier block. The copy is the one
-- that a sweep leaves.
use mathlib.Core.Path.{◌≡◌, refl}
use mathlib.Core.Logic.{◌⊎◌, inl}
use mathlib.Core.Bool.{true, false}
use mathlib.Core.List.{List, [], ◌∷◌}
use Prim.Native.Nat.{ℕ}
use Rattle.medium.specs.declared.fuse.Fuse.{Fuse}
use Rattle.medium.specs.declared.fuse.Fuse.TheVariants.{Absent}
use Rattle.medium.specs.Geometry.{geometry_ok, admit}
use Rattle.medium.specs.Operation.{done}
use Rattle.medium.specs.Medium.{readable, read_at}
use Rattle.objects.specs.declared.types.ObjectType.TheVariants.{FileMetadata}
use Rattle.objects.specs.declared.header.ObjectHeader.{ObjectHeader}
use Rattle.objects.specs.Types.{type_of, mark_of, marks_of, state_in}
use Rattle.objects.specs.Header.{state_at, sized_at, header_at, payload_size_of, payload_of}
use Rattle.objects.specs.Info.{info_at, total_of}
use Rattle.objects.specs.Payload.{equal, payload_readable, read_payload, same_payload}
use Rattle.objects.specs.Reader.{reader_at}
use Rattle.objects.specs.Metadata.{number_at, location_at, read_metadata, listable, next_location}
use Rattle.objects.specs.Listing.{next_of, list_from}
use Rattle.blocks.specs.declared.header.BlockType.TheVariants.{Metadata}
use Rattle.blocks.specs.BlockHeader.{padded, marked, blank, kind_of_type, named_kind, kind_in, block_header_at}
use Rattle.storage.specs.Order.{open_tour, is_of, open_of, blocks_tour, tour_from}
use Rattle.storage.specs.Lookup.{same_from, is_name, is_named}
use Rattle.storage.specs.File.{places_from}
use Rattle.storage.specs.Laws.{All}
use Rattle.sweep.specs.Referring.{metadata_in, locations_of, is_whole, is_listed, is_sound, listings, sweepable}
use Rattle.sweep.specs.Twins.{is_twin}
use Rattle.sweep.specs.Laws.{left_by}
use Rattle.mended.specs.Mended.{cut_between, AllBut, OneLeft, OtherSame, OwnSame, LikeSame, Mended, CutMoveMended}
use Rattle.byname.proofs.Instance.{chip, store, at, street, movable, listable_there}
use Rattle.mended.proofs.Theorem.{cut_move_mended}

metadata_block : (is_of chip Metadata 1 store ≡ done true) × (is_of chip Metadata 0 store ≡ done true)
unfolding geometry_ok admit readable read_at padded marked blank kind_of_type named_kind kind_in block_header_at is_of
metadata_block = (refl, refl)

can_be_swept : sweepable chip store ≡ done tt
unfolding geometry_ok admit readable read_at type_of mark_of marks_of state_in state_at sized_at header_at payload_size_of payload_of total_of info_at next_of list_from padded marked blank kind_of_type named_kind kind_in block_header_at open_tour is_of open_of blocks_tour tour_from number_at location_at read_metadata listable next_location places_from payload_readable locations_of is_whole is_listed is_sound listings sweepable
can_be_swept = refl

-- it is the only one
alone : (P : ObjectHeader → Type 0) → AllBut (at 1 8) P chip store
unfolding geometry_ok admit readable read_at type_of mark_of marks_of state_in state_at sized_at header_at payload_size_of payload_of total_of info_at next_of list_from padded marked blank kind_of_type named_kind kind_in block_header_at open_tour is_of open_of blocks_tour tour_from
alone P = (inl refl, tt)

named : is_named chip (0x41 ∷ []) 7 street store ≡ done true
unfolding geometry_ok admit readable read_at type_of mark_of marks_of state_in state_at sized_at header_at payload_of total_of equal reader_at number_at location_at read_metadata same_from is_name is_named
named = refl

not_named : is_named chip (0x42 ∷ []) 7 street store ≡ done false
unfolding geometry_ok admit readable read_at type_of mark_of marks_of state_in state_at sized_at header_at payload_of total_of equal reader_at number_at location_at read_metadata same_from is_name is_named
not_named = refl

like_itself : All (λ e. (is_twin chip store e street ≡ true) ⊎ (is_named chip (0x41 ∷ []) 7 e store ≡ done false)) (metadata_in chip store)
unfolding geometry_ok admit readable read_at type_of mark_of marks_of state_in state_at sized_at header_at payload_size_of payload_of total_of info_at next_of list_from padded marked blank kind_of_type named_kind kind_in block_header_at open_tour is_of open_of blocks_tour tour_from equal read_payload same_payload is_twin
like_itself = (inl refl, tt)

abbrev both : List ℕ
both = cut_between chip street (at 0 8) store

pub mended : Mended chip street (at 0 8) store both
unfolding CutMoveMended
mended = cut_move_mended chip street (at 0 8) 56 FileMetadata store movable listable_there metadata_block.0 metadata_block.1 can_be_swept

pub the_copy_left : OneLeft chip street (at 0 8) store (left_by Absent chip both)
the_copy_left = mended.one (alone (λ e. is_twin chip store e street ≡ false))

pub found_there : (f : Fuse) → OwnSame chip (0x41 ∷ []) 7 street (at 0 8) store (left_by f chip both)
found_there f = mended.own f (0x41 ∷ []) 7 named (alone (λ e. is_named chip (0x41 ∷ []) 7 e store ≡ done false))

pub found_like : (f : Fuse) → LikeSame chip (0x41 ∷ []) 7 street store (left_by f chip both)
found_like f = mended.alike f (0x41 ∷ []) 7 named like_itself

pub not_found_still : (f : Fuse) → OtherSame chip (0x42 ∷ []) 7 store (left_by f chip both)
not_found_still f = mended.others f (0x42 ∷ []) 7 not_named
