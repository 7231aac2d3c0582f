-- Made by tools/outcomes. The contract of each public function of cface allows one outcome.
use mathlib.Core.Path.{◌≡◌, sym, ap, ◌∙◌}
use Rattle.outcomes.proofs.One.{One}
use Rattle.crossing.specs.Crossing.{Crossing, CrossingWith, Telling}
use Rattle.cface.proofs.header_calls.stumpchoir_header_read.Reads as header_calls-stumpchoir_header_read
use Rattle.cface.proofs.header_calls.stumpchoir_update_state.Reads as header_calls-stumpchoir_update_state
use Rattle.cface.proofs.header_calls.stumpchoir_set_payload_size.Reads as header_calls-stumpchoir_set_payload_size
use Rattle.cface.proofs.info_calls.stumpchoir_info_read.Reads as info_calls-stumpchoir_info_read
use Rattle.cface.proofs.info_calls.stumpchoir_info_total_size.Reads as info_calls-stumpchoir_info_total_size
use Rattle.cface.proofs.info_calls.stumpchoir_info_finalize.Reads as info_calls-stumpchoir_info_finalize
use Rattle.cface.proofs.info_calls.stumpchoir_info_delete.Reads as info_calls-stumpchoir_info_delete
use Rattle.cface.proofs.iterator_calls.stumpchoir_iterator_new.Reads as iterator_calls-stumpchoir_iterator_new
use Rattle.cface.proofs.iterator_calls.stumpchoir_iterator_next.Reads as iterator_calls-stumpchoir_iterator_next
use Rattle.cface.proofs.location_calls.stumpchoir_location_into_bytes.Reads as location_calls-stumpchoir_location_into_bytes
use Rattle.cface.proofs.location_calls.stumpchoir_location_from_bytes.Reads as location_calls-stumpchoir_location_from_bytes
use Rattle.cface.proofs.medium_calls.stumpchoir_check.Reads as medium_calls-stumpchoir_check
use Rattle.cface.proofs.medium_calls.stumpchoir_align.Reads as medium_calls-stumpchoir_align
use Rattle.cface.proofs.medium_calls.stumpchoir_read.Reads as medium_calls-stumpchoir_read
use Rattle.cface.proofs.medium_calls.stumpchoir_write.Reads as medium_calls-stumpchoir_write
use Rattle.cface.proofs.medium_calls.stumpchoir_erase.Reads as medium_calls-stumpchoir_erase
use Rattle.cface.proofs.metadata_calls.stumpchoir_info_read_metadata.Reads as metadata_calls-stumpchoir_info_read_metadata
use Rattle.cface.proofs.metadata_calls.stumpchoir_location_read_metadata.Reads as metadata_calls-stumpchoir_location_read_metadata
use Rattle.cface.proofs.metadata_calls.stumpchoir_metadata_next_object_location.Reads as metadata_calls-stumpchoir_metadata_next_object_location
use Rattle.cface.proofs.metadata_calls.stumpchoir_metadata_reset.Reads as metadata_calls-stumpchoir_metadata_reset
use Rattle.cface.proofs.moving_calls.stumpchoir_write_to.Reads as moving_calls-stumpchoir_write_to
use Rattle.cface.proofs.moving_calls.stumpchoir_copy_object.Reads as moving_calls-stumpchoir_copy_object
use Rattle.cface.proofs.moving_calls.stumpchoir_move_object.Reads as moving_calls-stumpchoir_move_object
use Rattle.cface.proofs.reader_calls.stumpchoir_reader_new.Reads as reader_calls-stumpchoir_reader_new
use Rattle.cface.proofs.reader_calls.stumpchoir_reader_len.Reads as reader_calls-stumpchoir_reader_len
use Rattle.cface.proofs.reader_calls.stumpchoir_reader_remaining.Reads as reader_calls-stumpchoir_reader_remaining
use Rattle.cface.proofs.reader_calls.stumpchoir_reader_rewind.Reads as reader_calls-stumpchoir_reader_rewind
use Rattle.cface.proofs.reader_calls.stumpchoir_reader_read.Reads as reader_calls-stumpchoir_reader_read
use Rattle.cface.proofs.writer_calls.stumpchoir_writer_allocate.Reads as writer_calls-stumpchoir_writer_allocate
use Rattle.cface.proofs.writer_calls.stumpchoir_writer_space.Reads as writer_calls-stumpchoir_writer_space
use Rattle.cface.proofs.writer_calls.stumpchoir_writer_payload_size.Reads as writer_calls-stumpchoir_writer_payload_size
use Rattle.cface.proofs.writer_calls.stumpchoir_writer_total_size.Reads as writer_calls-stumpchoir_writer_total_size
use Rattle.cface.proofs.writer_calls.stumpchoir_writer_write.Reads as writer_calls-stumpchoir_writer_write
use Rattle.cface.proofs.writer_calls.stumpchoir_writer_finalize.Reads as writer_calls-stumpchoir_writer_finalize
use Rattle.cface.proofs.writer_calls.stumpchoir_writer_delete.Reads as writer_calls-stumpchoir_writer_delete

pub header_calls_stumpchoir_header_read_one : One header_calls-stumpchoir_header_read.Post (λ _ r e r' e'. (r ≡ r') × (e.1.1.1.1.0.now ≡ e'.1.1.1.1.0.now))
header_calls_stumpchoir_header_read_one _ _ r r' e e' p q = let s = p ∙ sym q in (ap (λ (z : Telling _). z.number) s, ap (λ (z : Telling _). z.out) s)

pub header_calls_stumpchoir_update_state_one : One header_calls-stumpchoir_update_state.Post (λ _ r e r' e'. (r ≡ r') × (e.1.0.now ≡ e'.1.0.now) × (e.1.1.1.0.now ≡ e'.1.1.1.0.now) × (e.1.1.1.1.0.now ≡ e'.1.1.1.1.0.now))
header_calls_stumpchoir_update_state_one _ _ r r' e e' p q = let s = p ∙ sym q in (ap (λ (z : CrossingWith _ _). z.number) s, ap (λ (z : CrossingWith _ _). z.state) s, ap (λ (z : CrossingWith _ _). z.units) s, ap (λ (z : CrossingWith _ _). z.out) s)

pub header_calls_stumpchoir_set_payload_size_one : One header_calls-stumpchoir_set_payload_size.Post (λ _ r e r' e'. (r ≡ r') × (e.1.0.now ≡ e'.1.0.now) × (e.1.1.1.0.now ≡ e'.1.1.1.0.now) × (e.1.1.1.1.0.now ≡ e'.1.1.1.1.0.now))
header_calls_stumpchoir_set_payload_size_one _ _ r r' e e' p q = let s = p ∙ sym q in (ap (λ (z : CrossingWith _ _). z.number) s, ap (λ (z : CrossingWith _ _). z.state) s, ap (λ (z : CrossingWith _ _). z.units) s, ap (λ (z : CrossingWith _ _). z.out) s)

pub info_calls_stumpchoir_info_read_one : One info_calls-stumpchoir_info_read.Post (λ _ r e r' e'. (r ≡ r') × (e.1.1.1.1.0.now ≡ e'.1.1.1.1.0.now) × (e.1.1.1.1.1.0.now ≡ e'.1.1.1.1.1.0.now))
info_calls_stumpchoir_info_read_one _ _ r r' e e' p q = let s = p ∙ sym q in (ap (λ (z : Telling _). z.number) s, ap (λ (z : Telling _). z.out.first) s, ap (λ (z : Telling _). z.out.second) s)

pub info_calls_stumpchoir_info_total_size_one : One info_calls-stumpchoir_info_total_size.Post (λ _ r e r' e'. (r ≡ r') × (e.1.1.0.now ≡ e'.1.1.0.now))
info_calls_stumpchoir_info_total_size_one _ _ r r' e e' p q = let s = p ∙ sym q in (ap (λ (z : Telling _). z.number) s, ap (λ (z : Telling _). z.out) s)

pub info_calls_stumpchoir_info_finalize_one : One info_calls-stumpchoir_info_finalize.Post (λ _ r e r' e'. (r ≡ r') × (e.1.0.now ≡ e'.1.0.now) × (e.1.1.1.0.now ≡ e'.1.1.1.0.now) × (e.1.1.1.1.0.now ≡ e'.1.1.1.1.0.now))
info_calls_stumpchoir_info_finalize_one _ _ r r' e e' p q = let s = p ∙ sym q in (ap (λ (z : CrossingWith _ _). z.number) s, ap (λ (z : CrossingWith _ _). z.state) s, ap (λ (z : CrossingWith _ _). z.units) s, ap (λ (z : CrossingWith _ _). z.out) s)

pub info_calls_stumpchoir_info_delete_one : One info_calls-stumpchoir_info_delete.Post (λ _ r e r' e'. (r ≡ r') × (e.1.0.now ≡ e'.1.0.now) × (e.1.1.1.0.now ≡ e'.1.1.1.0.now) × (e.1.1.1.1.0.now ≡ e'.1.1.1.1.0.now))
info_calls_stumpchoir_info_delete_one _ _ r r' e e' p q = let s = p ∙ sym q in (ap (λ (z : CrossingWith _ _). z.number) s, ap (λ (z : CrossingWith _ _). z.state) s, ap (λ (z : CrossingWith _ _). z.units) s, ap (λ (z : CrossingWith _ _). z.out) s)

pub iterator_calls_stumpchoir_iterator_new_one : One iterator_calls-stumpchoir_iterator_new.Post (λ _ r e r' e'. (r ≡ r') × (e.1.1.0.now ≡ e'.1.1.0.now))
iterator_calls_stumpchoir_iterator_new_one _ _ r r' e e' p q = let s = p ∙ sym q in (ap (λ (z : Telling _). z.number) s, ap (λ (z : Telling _). z.out) s)

pub iterator_calls_stumpchoir_iterator_next_one : One iterator_calls-stumpchoir_iterator_next.Post (λ _ r e r' e'. (r ≡ r') × (e.1.1.0.now ≡ e'.1.1.0.now) × (e.1.1.1.0.now ≡ e'.1.1.1.0.now) × (e.1.1.1.1.0.now ≡ e'.1.1.1.1.0.now))
iterator_calls_stumpchoir_iterator_next_one _ _ r r' e e' p q = let s = p ∙ sym q in (ap (λ (z : Telling _). z.number) s, ap (λ (z : Telling _). z.out.first) s, ap (λ (z : Telling _). z.out.second.first) s, ap (λ (z : Telling _). z.out.second.second) s)

pub location_calls_stumpchoir_location_into_bytes_one : One location_calls-stumpchoir_location_into_bytes.Post (λ _ r e r' e'. (r ≡ r') × (e.1.1.1.0.now ≡ e'.1.1.1.0.now) × (e.1.1.1.1.0.now ≡ e'.1.1.1.1.0.now))
location_calls_stumpchoir_location_into_bytes_one _ _ r r' e e' p q = let s = p ∙ sym q in (ap (λ (z : Telling _). z.number) s, ap (λ (z : Telling _). z.out.first) s, ap (λ (z : Telling _). z.out.second) s)

pub location_calls_stumpchoir_location_from_bytes_one : One location_calls-stumpchoir_location_from_bytes.Post (λ _ r e r' e'. (r ≡ r') × (e.1.1.0.now ≡ e'.1.1.0.now))
location_calls_stumpchoir_location_from_bytes_one _ _ r r' e e' p q = let s = p ∙ sym q in (ap (λ (z : Telling _). z.number) s, ap (λ (z : Telling _). z.out) s)

pub medium_calls_stumpchoir_check_one : One medium_calls-stumpchoir_check.Post (λ _ r e r' e'. r ≡ r')
medium_calls_stumpchoir_check_one _ _ r r' e e' p q = p ∙ sym q

pub medium_calls_stumpchoir_align_one : One medium_calls-stumpchoir_align.Post (λ _ r e r' e'. (r ≡ r') × (e.1.1.0.now ≡ e'.1.1.0.now))
medium_calls_stumpchoir_align_one _ _ r r' e e' p q = let s = p ∙ sym q in (ap (λ (z : Telling _). z.number) s, ap (λ (z : Telling _). z.out) s)

pub medium_calls_stumpchoir_read_one : One medium_calls-stumpchoir_read.Post (λ _ r e r' e'. (r ≡ r') × (e.1.1.1.1.0.now ≡ e'.1.1.1.1.0.now))
medium_calls_stumpchoir_read_one _ _ r r' e e' p q = let s = p ∙ sym q in (ap (λ (z : Telling _). z.number) s, ap (λ (z : Telling _). z.out) s)

pub medium_calls_stumpchoir_write_one : One medium_calls-stumpchoir_write.Post (λ _ r e r' e'. (r ≡ r') × (e.1.0.now ≡ e'.1.0.now) × (e.1.1.1.0.now ≡ e'.1.1.1.0.now))
medium_calls_stumpchoir_write_one _ _ r r' e e' p q = let s = p ∙ sym q in (ap (λ (z : Crossing _). z.number) s, ap (λ (z : Crossing _). z.state) s, ap (λ (z : Crossing _). z.units) s)

pub medium_calls_stumpchoir_erase_one : One medium_calls-stumpchoir_erase.Post (λ _ r e r' e'. (r ≡ r') × (e.1.0.now ≡ e'.1.0.now) × (e.1.1.1.0.now ≡ e'.1.1.1.0.now))
medium_calls_stumpchoir_erase_one _ _ r r' e e' p q = let s = p ∙ sym q in (ap (λ (z : Crossing _). z.number) s, ap (λ (z : Crossing _). z.state) s, ap (λ (z : Crossing _). z.units) s)

pub metadata_calls_stumpchoir_info_read_metadata_one : One metadata_calls-stumpchoir_info_read_metadata.Post (λ _ r e r' e'. (r ≡ r') × (e.1.1.1.0.now ≡ e'.1.1.1.0.now))
metadata_calls_stumpchoir_info_read_metadata_one _ _ r r' e e' p q = let s = p ∙ sym q in (ap (λ (z : Telling _). z.number) s, ap (λ (z : Telling _). z.out) s)

pub metadata_calls_stumpchoir_location_read_metadata_one : One metadata_calls-stumpchoir_location_read_metadata.Post (λ _ r e r' e'. (r ≡ r') × (e.1.1.1.1.0.now ≡ e'.1.1.1.1.0.now))
metadata_calls_stumpchoir_location_read_metadata_one _ _ r r' e e' p q = let s = p ∙ sym q in (ap (λ (z : Telling _). z.number) s, ap (λ (z : Telling _). z.out) s)

pub metadata_calls_stumpchoir_metadata_next_object_location_one : One metadata_calls-stumpchoir_metadata_next_object_location.Post (λ _ r e r' e'. (r ≡ r') × (e.1.1.0.now ≡ e'.1.1.0.now) × (e.1.1.1.0.now ≡ e'.1.1.1.0.now) × (e.1.1.1.1.0.now ≡ e'.1.1.1.1.0.now))
metadata_calls_stumpchoir_metadata_next_object_location_one _ _ r r' e e' p q = let s = p ∙ sym q in (ap (λ (z : Telling _). z.number) s, ap (λ (z : Telling _). z.out.first) s, ap (λ (z : Telling _). z.out.second.first) s, ap (λ (z : Telling _). z.out.second.second) s)

pub metadata_calls_stumpchoir_metadata_reset_one : One metadata_calls-stumpchoir_metadata_reset.Post (λ _ r e r' e'. (r ≡ r') × (e.1.0.now ≡ e'.1.0.now))
metadata_calls_stumpchoir_metadata_reset_one _ _ r r' e e' p q = let s = p ∙ sym q in (ap (λ (z : Telling _). z.number) s, ap (λ (z : Telling _). z.out) s)

pub moving_calls_stumpchoir_write_to_one : One moving_calls-stumpchoir_write_to.Post (λ _ r e r' e'. (r ≡ r') × (e.1.0.now ≡ e'.1.0.now) × (e.1.1.1.0.now ≡ e'.1.1.1.0.now) × (e.1.1.1.1.1.1.1.1.0.now ≡ e'.1.1.1.1.1.1.1.1.0.now))
moving_calls_stumpchoir_write_to_one _ _ r r' e e' p q = let s = p ∙ sym q in (ap (λ (z : CrossingWith _ _). z.number) s, ap (λ (z : CrossingWith _ _). z.state) s, ap (λ (z : CrossingWith _ _). z.units) s, ap (λ (z : CrossingWith _ _). z.out) s)

pub moving_calls_stumpchoir_copy_object_one : One moving_calls-stumpchoir_copy_object.Post (λ _ r e r' e'. (r ≡ r') × (e.1.0.now ≡ e'.1.0.now) × (e.1.1.1.0.now ≡ e'.1.1.1.0.now) × (e.1.1.1.1.1.1.1.0.now ≡ e'.1.1.1.1.1.1.1.0.now))
moving_calls_stumpchoir_copy_object_one _ _ r r' e e' p q = let s = p ∙ sym q in (ap (λ (z : CrossingWith _ _). z.number) s, ap (λ (z : CrossingWith _ _). z.state) s, ap (λ (z : CrossingWith _ _). z.units) s, ap (λ (z : CrossingWith _ _). z.out) s)

pub moving_calls_stumpchoir_move_object_one : One moving_calls-stumpchoir_move_object.Post (λ _ r e r' e'. (r ≡ r') × (e.1.0.now ≡ e'.1.0.now) × (e.1.1.1.0.now ≡ e'.1.1.1.0.now) × (e.1.1.1.1.1.1.1.0.now ≡ e'.1.1.1.1.1.1.1.0.now))
moving_calls_stumpchoir_move_object_one _ _ r r' e e' p q = let s = p ∙ sym q in (ap (λ (z : CrossingWith _ _). z.number) s, ap (λ (z : CrossingWith _ _). z.state) s, ap (λ (z : CrossingWith _ _). z.units) s, ap (λ (z : CrossingWith _ _). z.out) s)

pub reader_calls_stumpchoir_reader_new_one : One reader_calls-stumpchoir_reader_new.Post (λ _ r e r' e'. (r ≡ r') × (e.1.1.1.1.1.0.now ≡ e'.1.1.1.1.1.0.now))
reader_calls_stumpchoir_reader_new_one _ _ r r' e e' p q = let s = p ∙ sym q in (ap (λ (z : Telling _). z.number) s, ap (λ (z : Telling _). z.out) s)

pub reader_calls_stumpchoir_reader_len_one : One reader_calls-stumpchoir_reader_len.Post (λ _ r e r' e'. (r ≡ r') × (e.1.1.0.now ≡ e'.1.1.0.now))
reader_calls_stumpchoir_reader_len_one _ _ r r' e e' p q = let s = p ∙ sym q in (ap (λ (z : Telling _). z.number) s, ap (λ (z : Telling _). z.out) s)

pub reader_calls_stumpchoir_reader_remaining_one : One reader_calls-stumpchoir_reader_remaining.Post (λ _ r e r' e'. (r ≡ r') × (e.1.1.0.now ≡ e'.1.1.0.now))
reader_calls_stumpchoir_reader_remaining_one _ _ r r' e e' p q = let s = p ∙ sym q in (ap (λ (z : Telling _). z.number) s, ap (λ (z : Telling _). z.out) s)

pub reader_calls_stumpchoir_reader_rewind_one : One reader_calls-stumpchoir_reader_rewind.Post (λ _ r e r' e'. (r ≡ r') × (e.1.0.now ≡ e'.1.0.now))
reader_calls_stumpchoir_reader_rewind_one _ _ r r' e e' p q = let s = p ∙ sym q in (ap (λ (z : Telling _). z.number) s, ap (λ (z : Telling _). z.out) s)

pub reader_calls_stumpchoir_reader_read_one : One reader_calls-stumpchoir_reader_read.Post (λ _ r e r' e'. (r ≡ r') × (e.1.1.0.now ≡ e'.1.1.0.now) × (e.1.1.1.0.now ≡ e'.1.1.1.0.now) × (e.1.1.1.1.0.now ≡ e'.1.1.1.1.0.now))
reader_calls_stumpchoir_reader_read_one _ _ r r' e e' p q = let s = p ∙ sym q in (ap (λ (z : Telling _). z.number) s, ap (λ (z : Telling _). z.out.first) s, ap (λ (z : Telling _). z.out.second.first) s, ap (λ (z : Telling _). z.out.second.second) s)

pub writer_calls_stumpchoir_writer_allocate_one : One writer_calls-stumpchoir_writer_allocate.Post (λ _ r e r' e'. (r ≡ r') × (e.1.0.now ≡ e'.1.0.now) × (e.1.1.1.0.now ≡ e'.1.1.1.0.now) × (e.1.1.1.1.1.1.1.0.now ≡ e'.1.1.1.1.1.1.1.0.now))
writer_calls_stumpchoir_writer_allocate_one _ _ r r' e e' p q = let s = p ∙ sym q in (ap (λ (z : CrossingWith _ _). z.number) s, ap (λ (z : CrossingWith _ _). z.state) s, ap (λ (z : CrossingWith _ _). z.units) s, ap (λ (z : CrossingWith _ _). z.out) s)

pub writer_calls_stumpchoir_writer_space_one : One writer_calls-stumpchoir_writer_space.Post (λ _ r e r' e'. (r ≡ r') × (e.1.1.0.now ≡ e'.1.1.0.now))
writer_calls_stumpchoir_writer_space_one _ _ r r' e e' p q = let s = p ∙ sym q in (ap (λ (z : Telling _). z.number) s, ap (λ (z : Telling _). z.out) s)

pub writer_calls_stumpchoir_writer_payload_size_one : One writer_calls-stumpchoir_writer_payload_size.Post (λ _ r e r' e'. (r ≡ r') × (e.1.1.0.now ≡ e'.1.1.0.now))
writer_calls_stumpchoir_writer_payload_size_one _ _ r r' e e' p q = let s = p ∙ sym q in (ap (λ (z : Telling _). z.number) s, ap (λ (z : Telling _). z.out) s)

pub writer_calls_stumpchoir_writer_total_size_one : One writer_calls-stumpchoir_writer_total_size.Post (λ _ r e r' e'. (r ≡ r') × (e.1.1.0.now ≡ e'.1.1.0.now))
writer_calls_stumpchoir_writer_total_size_one _ _ r r' e e' p q = let s = p ∙ sym q in (ap (λ (z : Telling _). z.number) s, ap (λ (z : Telling _). z.out) s)

pub writer_calls_stumpchoir_writer_write_one : One writer_calls-stumpchoir_writer_write.Post (λ _ r e r' e'. (r ≡ r') × (e.1.0.now ≡ e'.1.0.now) × (e.1.1.1.0.now ≡ e'.1.1.1.0.now) × (e.1.1.1.1.0.now ≡ e'.1.1.1.1.0.now))
writer_calls_stumpchoir_writer_write_one _ _ r r' e e' p q = let s = p ∙ sym q in (ap (λ (z : CrossingWith _ _). z.number) s, ap (λ (z : CrossingWith _ _). z.state) s, ap (λ (z : CrossingWith _ _). z.units) s, ap (λ (z : CrossingWith _ _). z.out) s)

pub writer_calls_stumpchoir_writer_finalize_one : One writer_calls-stumpchoir_writer_finalize.Post (λ _ r e r' e'. (r ≡ r') × (e.1.0.now ≡ e'.1.0.now) × (e.1.1.1.0.now ≡ e'.1.1.1.0.now) × (e.1.1.1.1.0.now ≡ e'.1.1.1.1.0.now))
writer_calls_stumpchoir_writer_finalize_one _ _ r r' e e' p q = let s = p ∙ sym q in (ap (λ (z : CrossingWith _ _). z.number) s, ap (λ (z : CrossingWith _ _). z.state) s, ap (λ (z : CrossingWith _ _). z.units) s, ap (λ (z : CrossingWith _ _). z.out) s)

pub writer_calls_stumpchoir_writer_delete_one : One writer_calls-stumpchoir_writer_delete.Post (λ _ r e r' e'. (r ≡ r') × (e.1.0.now ≡ e'.1.0.now) × (e.1.1.1.0.now ≡ e'.1.1.1.0.now) × (e.1.1.1.1.0.now ≡ e'.1.1.1.1.0.now))
writer_calls_stumpchoir_writer_delete_one _ _ r r' e e' p q = let s = p ∙ sym q in (ap (λ (z : CrossingWith _ _). z.number) s, ap (λ (z : CrossingWith _ _). z.state) s, ap (λ (z : CrossingWith _ _). z.units) s, ap (λ (z : CrossingWith _ _). z.out) s)
