-- Made by tools/outcomes. The contract of each public function of objects allows one outcome.
use mathlib.Core.Path.{◌≡◌, sym, ◌∙◌}
use Rattle.outcomes.proofs.One.{One}
use Rattle.outcomes.proofs.Answers.{handed_one, heard_one, info_one, next_location_one, next_one, reading_one, type_one}
use Rattle.medium.proofs.Refusals.{answer_one, code_one}
use Rattle.objects.proofs.header.unset.Reads as header-unset
use Rattle.objects.proofs.header.ObjectHeader.read.Reads as header-ObjectHeader-read
use Rattle.objects.proofs.header.ObjectHeader.payload_size.Reads as header-ObjectHeader-payload_size
use Rattle.objects.proofs.header.ObjectHeader.payload.Reads as header-ObjectHeader-payload
use Rattle.objects.proofs.header.ObjectHeader.set_state.Reads as header-ObjectHeader-set_state
use Rattle.objects.proofs.header.ObjectHeader.update_state.Reads as header-ObjectHeader-update_state
use Rattle.objects.proofs.header.ObjectHeader.set_payload_size.Reads as header-ObjectHeader-set_payload_size
use Rattle.objects.proofs.info.read.Reads as info-read
use Rattle.objects.proofs.info.total.Reads as info-total
use Rattle.objects.proofs.info.total_size.Reads as info-total_size
use Rattle.objects.proofs.info.finalize.Reads as info-finalize
use Rattle.objects.proofs.info.delete.Reads as info-delete
use Rattle.objects.proofs.iterator.ObjectIterator.new.Reads as iterator-ObjectIterator-new
use Rattle.objects.proofs.iterator.ObjectIterator.next.Reads as iterator-ObjectIterator-next
use Rattle.objects.proofs.iterator.ObjectIterator.current_offset.Reads as iterator-ObjectIterator-current_offset
use Rattle.objects.proofs.location.ObjectLocation.into_bytes.Reads as location-ObjectLocation-into_bytes
use Rattle.objects.proofs.location.ObjectLocation.from_bytes.Reads as location-ObjectLocation-from_bytes
use Rattle.objects.proofs.metadata.read.Reads as metadata-read
use Rattle.objects.proofs.metadata.read_at.Reads as metadata-read_at
use Rattle.objects.proofs.metadata.MetadataObjectHeader.next_object_location.Reads as metadata-MetadataObjectHeader-next_object_location
use Rattle.objects.proofs.metadata.MetadataObjectHeader.reset.Reads as metadata-MetadataObjectHeader-reset
use Rattle.objects.proofs.payload.at.Reads as payload-at
use Rattle.objects.proofs.payload.reach.Reads as payload-reach
use Rattle.objects.proofs.payload.lend.Reads as payload-lend
use Rattle.objects.proofs.payload.is_equal.Reads as payload-is_equal
use Rattle.objects.proofs.payload.is_same.Reads as payload-is_same
use Rattle.objects.proofs.reader.ObjectReader.new.Reads as reader-ObjectReader-new
use Rattle.objects.proofs.reader.ObjectReader.len.Reads as reader-ObjectReader-len
use Rattle.objects.proofs.reader.ObjectReader.remaining.Reads as reader-ObjectReader-remaining
use Rattle.objects.proofs.reader.ObjectReader.rewind.Reads as reader-ObjectReader-rewind
use Rattle.objects.proofs.reader.ObjectReader.read.Reads as reader-ObjectReader-read
use Rattle.objects.proofs.state.ObjectState.rank.Reads as state-ObjectState-rank
use Rattle.objects.proofs.state.ObjectDataState.rank.Reads as state-ObjectDataState-rank
use Rattle.objects.proofs.state.ObjectDataState.of_marks.Reads as state-ObjectDataState-of_marks
use Rattle.objects.proofs.state.ObjectDataState.mark_at.Reads as state-ObjectDataState-mark_at
use Rattle.objects.proofs.state.ObjectDataState.mark.Reads as state-ObjectDataState-mark
use Rattle.objects.proofs.state.CompositeObjectState.rank.Reads as state-CompositeObjectState-rank
use Rattle.objects.proofs.state.CompositeObjectState.state.Reads as state-CompositeObjectState-state
use Rattle.objects.proofs.state.CompositeObjectState.type_byte.Reads as state-CompositeObjectState-type_byte
use Rattle.objects.proofs.state.CompositeObjectState.is.Reads as state-CompositeObjectState-is
use Rattle.objects.proofs.state.CompositeObjectState.read.Reads as state-CompositeObjectState-read
use Rattle.objects.proofs.state.CompositeObjectState.allocatable.Reads as state-CompositeObjectState-allocatable
use Rattle.objects.proofs.types.ObjectTypeTryFromU32.try_from.Reads as types-ObjectTypeTryFromU32-try_from
use Rattle.objects.proofs.types.U8FromObjectType.from.Reads as types-U8FromObjectType-from
use Rattle.objects.proofs.types.ObjectType.parse.Reads as types-ObjectType-parse

pub header_unset_one : One header-unset.Post (λ _ r e r' e'. r ≡ r')
header_unset_one _ _ r r' e e' p q = p ∙ sym q

pub header_ObjectHeader_read_one : One header-ObjectHeader-read.Post (λ _ r e r' e'. r ≡ r')
header_ObjectHeader_read_one _ _ r r' e e' p q = answer_one r r' (p.0 ∙ sym q.0)

pub header_ObjectHeader_payload_size_one : One header-ObjectHeader-payload_size.Post (λ _ r e r' e'. r ≡ r')
header_ObjectHeader_payload_size_one _ _ r r' e e' p q = p ∙ sym q

pub header_ObjectHeader_payload_one : One header-ObjectHeader-payload.Post (λ _ r e r' e'. r ≡ r')
header_ObjectHeader_payload_one _ _ r r' e e' p q = p.0 ∙ sym q.0

pub header_ObjectHeader_set_state_one : One header-ObjectHeader-set_state.Post (λ _ r e r' e'. (r ≡ r') × (e.1.1.0.now ≡ e'.1.1.0.now))
header_ObjectHeader_set_state_one _ _ r r' e e' p q = handed_one r r' _ _ _ p q

pub header_ObjectHeader_update_state_one : One header-ObjectHeader-update_state.Post (λ _ r e r' e'. (r ≡ r') × (e.1.1.0.now ≡ e'.1.1.0.now))
header_ObjectHeader_update_state_one _ _ r r' e e' p q = handed_one r r' _ _ _ p q

pub header_ObjectHeader_set_payload_size_one : One header-ObjectHeader-set_payload_size.Post (λ _ r e r' e'. (r ≡ r') × (e.1.1.0.now ≡ e'.1.1.0.now))
header_ObjectHeader_set_payload_size_one _ _ r r' e e' p q = handed_one r r' _ _ _ p q

pub info_read_one : One info-read.Post (λ _ r e r' e'. r ≡ r')
info_read_one _ _ r r' e e' p q = info_one (p.0 ∙ sym q.0)

pub info_total_one : One info-total.Post (λ _ r e r' e'. r ≡ r')
info_total_one _ _ r r' e e' p q = p.0 ∙ sym q.0

pub info_total_size_one : One info-total_size.Post (λ _ r e r' e'. r ≡ r')
info_total_size_one _ _ r r' e e' p q = answer_one r r' (p ∙ sym q)

pub info_finalize_one : One info-finalize.Post (λ _ r e r' e'. (r ≡ r') × (e.1.0.now ≡ e'.1.0.now))
info_finalize_one _ _ r r' e e' p q = handed_one r r' _ _ _ p q

pub info_delete_one : One info-delete.Post (λ _ r e r' e'. (r ≡ r') × (e.1.0.now ≡ e'.1.0.now))
info_delete_one _ _ r r' e e' p q = handed_one r r' _ _ _ p q

pub iterator_ObjectIterator_new_one : One iterator-ObjectIterator-new.Post (λ _ r e r' e'. r ≡ r')
iterator_ObjectIterator_new_one _ _ r r' e e' p q = p ∙ sym q

pub iterator_ObjectIterator_next_one : One iterator-ObjectIterator-next.Post (λ _ r e r' e'. r ≡ r')
iterator_ObjectIterator_next_one _ _ r r' e e' p q = next_one (p ∙ sym q)

pub iterator_ObjectIterator_current_offset_one : One iterator-ObjectIterator-current_offset.Post (λ _ r e r' e'. r ≡ r')
iterator_ObjectIterator_current_offset_one _ _ r r' e e' p q = p ∙ sym q

pub location_ObjectLocation_into_bytes_one : One location-ObjectLocation-into_bytes.Post (λ _ r e r' e'. (r ≡ r') × (e.1.1.0.now ≡ e'.1.1.0.now))
location_ObjectLocation_into_bytes_one _ _ r r' e e' p q = heard_one r r' _ _ _ _ p.0 q.0 p.1 q.1

pub location_ObjectLocation_from_bytes_one : One location-ObjectLocation-from_bytes.Post (λ _ r e r' e'. r ≡ r')
location_ObjectLocation_from_bytes_one _ _ r r' e e' p q = answer_one r r' (p ∙ sym q)

pub metadata_read_one : One metadata-read.Post (λ _ r e r' e'. r ≡ r')
metadata_read_one _ _ r r' e e' p q = answer_one r r' (p ∙ sym q)

pub metadata_read_at_one : One metadata-read_at.Post (λ _ r e r' e'. r ≡ r')
metadata_read_at_one _ _ r r' e e' p q = answer_one r r' (p ∙ sym q)

pub metadata_MetadataObjectHeader_next_object_location_one : One metadata-MetadataObjectHeader-next_object_location.Post (λ _ r e r' e'. r ≡ r')
metadata_MetadataObjectHeader_next_object_location_one _ _ r r' e e' p q = next_location_one (p ∙ sym q)

pub metadata_MetadataObjectHeader_reset_one : One metadata-MetadataObjectHeader-reset.Post (λ _ r e r' e'. r ≡ r')
metadata_MetadataObjectHeader_reset_one _ _ r r' e e' p q = p ∙ sym q

pub payload_at_one : One payload-at.Post (λ _ r e r' e'. r ≡ r')
payload_at_one _ _ r r' e e' p q = p.0 ∙ sym q.0

pub payload_reach_one : One payload-reach.Post (λ _ r e r' e'. r ≡ r')
payload_reach_one _ _ r r' e e' p q = code_one r r' (p ∙ sym q)

pub payload_lend_one : One payload-lend.Post (λ _ r e r' e'. r.now ≡ r'.now)
payload_lend_one _ _ r r' e e' p q = p ∙ sym q

pub payload_is_equal_one : One payload-is_equal.Post (λ _ r e r' e'. r ≡ r')
payload_is_equal_one _ _ r r' e e' p q = p ∙ sym q

pub payload_is_same_one : One payload-is_same.Post (λ _ r e r' e'. r ≡ r')
payload_is_same_one _ _ r r' e e' p q = p ∙ sym q

pub reader_ObjectReader_new_one : One reader-ObjectReader-new.Post (λ _ r e r' e'. r ≡ r')
reader_ObjectReader_new_one _ _ r r' e e' p q = answer_one r r' (p ∙ sym q)

pub reader_ObjectReader_len_one : One reader-ObjectReader-len.Post (λ _ r e r' e'. r ≡ r')
reader_ObjectReader_len_one _ _ r r' e e' p q = answer_one r r' (p ∙ sym q)

pub reader_ObjectReader_remaining_one : One reader-ObjectReader-remaining.Post (λ _ r e r' e'. r ≡ r')
reader_ObjectReader_remaining_one _ _ r r' e e' p q = answer_one r r' (p ∙ sym q)

pub reader_ObjectReader_rewind_one : One reader-ObjectReader-rewind.Post (λ _ r e r' e'. r ≡ r')
reader_ObjectReader_rewind_one _ _ r r' e e' p q = p ∙ sym q

pub reader_ObjectReader_read_one : One reader-ObjectReader-read.Post (λ _ r e r' e'. (r ≡ r') × (e.1.1.1.0.now ≡ e'.1.1.1.0.now))
reader_ObjectReader_read_one _ _ r r' e e' p q = (reading_one (p.0 ∙ sym q.0), p.1 ∙ sym q.1)

pub state_ObjectState_rank_one : One state-ObjectState-rank.Post (λ _ r e r' e'. r ≡ r')
state_ObjectState_rank_one _ _ r r' e e' p q = p ∙ sym q

pub state_ObjectDataState_rank_one : One state-ObjectDataState-rank.Post (λ _ r e r' e'. r ≡ r')
state_ObjectDataState_rank_one _ _ r r' e e' p q = p ∙ sym q

pub state_ObjectDataState_of_marks_one : One state-ObjectDataState-of_marks.Post (λ _ r e r' e'. r ≡ r')
state_ObjectDataState_of_marks_one _ _ r r' e e' p q = answer_one r r' (p ∙ sym q)

pub state_ObjectDataState_mark_at_one : One state-ObjectDataState-mark_at.Post (λ _ r e r' e'. r ≡ r')
state_ObjectDataState_mark_at_one _ _ r r' e e' p q = p ∙ sym q

pub state_ObjectDataState_mark_one : One state-ObjectDataState-mark.Post (λ _ r e r' e'. r ≡ r')
state_ObjectDataState_mark_one _ _ r r' e e' p q = p ∙ sym q

pub state_CompositeObjectState_rank_one : One state-CompositeObjectState-rank.Post (λ _ r e r' e'. r ≡ r')
state_CompositeObjectState_rank_one _ _ r r' e e' p q = p ∙ sym q

pub state_CompositeObjectState_state_one : One state-CompositeObjectState-state.Post (λ _ r e r' e'. r ≡ r')
state_CompositeObjectState_state_one _ _ r r' e e' p q = p ∙ sym q

pub state_CompositeObjectState_type_byte_one : One state-CompositeObjectState-type_byte.Post (λ _ r e r' e'. r ≡ r')
state_CompositeObjectState_type_byte_one _ _ r r' e e' p q = p ∙ sym q

pub state_CompositeObjectState_is_one : One state-CompositeObjectState-is.Post (λ _ r e r' e'. r ≡ r')
state_CompositeObjectState_is_one _ _ r r' e e' p q = p ∙ sym q

pub state_CompositeObjectState_read_one : One state-CompositeObjectState-read.Post (λ _ r e r' e'. r ≡ r')
state_CompositeObjectState_read_one _ _ r r' e e' p q = answer_one r r' (p ∙ sym q)

pub state_CompositeObjectState_allocatable_one : One state-CompositeObjectState-allocatable.Post (λ _ r e r' e'. r ≡ r')
state_CompositeObjectState_allocatable_one _ _ r r' e e' p q = answer_one r r' (p ∙ sym q)

pub types_ObjectTypeTryFromU32_try_from_one : One types-ObjectTypeTryFromU32-try_from.Post (λ _ r e r' e'. r ≡ r')
types_ObjectTypeTryFromU32_try_from_one _ _ r r' e e' p q = answer_one r r' (p ∙ sym q)

pub types_U8FromObjectType_from_one : One types-U8FromObjectType-from.Post (λ _ r e r' e'. r ≡ r')
types_U8FromObjectType_from_one _ _ r r' e e' p q = p ∙ sym q

pub types_ObjectType_parse_one : One types-ObjectType-parse.Post (λ _ r e r' e'. r ≡ r')
types_ObjectType_parse_one _ _ r r' e e' p q = type_one (p ∙ sym q)
