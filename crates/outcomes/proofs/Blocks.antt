-- Made by tools/outcomes. The contract of each public function of blocks allows one outcome.
use mathlib.Core.Path.{◌≡◌, sym, ◌∙◌}
use Rattle.outcomes.proofs.One.{One}
use Rattle.outcomes.proofs.Answers.{plan_one, stored_one}
use Rattle.medium.proofs.Refusals.{answer_one}
use Rattle.blocks.proofs.format.is_block_data_empty.Reads as format-is_block_data_empty
use Rattle.blocks.proofs.format.plan_format.Reads as format-plan_format
use Rattle.blocks.proofs.format.format_block.Reads as format-format_block
use Rattle.blocks.proofs.format.format_storage.Reads as format-format_storage
use Rattle.blocks.proofs.format.set_block_type.Reads as format-set_block_type
use Rattle.blocks.proofs.header.U8FromBlockType.from.Reads as header-U8FromBlockType-from
use Rattle.blocks.proofs.header.U32FromBlockHeaderKind.from.Reads as header-U32FromBlockHeaderKind-from
use Rattle.blocks.proofs.header.BlockHeaderKindTryFromU32.try_from.Reads as header-BlockHeaderKindTryFromU32-try_from
use Rattle.blocks.proofs.header.BlockHeaderKind.is_empty.Reads as header-BlockHeaderKind-is_empty
use Rattle.blocks.proofs.header.BlockHeaderKind.is_known.Reads as header-BlockHeaderKind-is_known
use Rattle.blocks.proofs.header.BlockHeaderKind.is_unknown.Reads as header-BlockHeaderKind-is_unknown
use Rattle.blocks.proofs.header.BlockHeader.read.Reads as header-BlockHeader-read
use Rattle.blocks.proofs.header.BlockHeader.write.Reads as header-BlockHeader-write
use Rattle.blocks.proofs.header.BlockHeader.is_empty.Reads as header-BlockHeader-is_empty
use Rattle.blocks.proofs.record.BlockInfo.new_unknown.Reads as record-BlockInfo-new_unknown
use Rattle.blocks.proofs.record.BlockInfo.of_numbers.Reads as record-BlockInfo-of_numbers
use Rattle.blocks.proofs.record.BlockInfo.mark.Reads as record-BlockInfo-mark
use Rattle.blocks.proofs.record.BlockInfo.free_space.Reads as record-BlockInfo-free_space
use Rattle.blocks.proofs.record.BlockInfo.is_empty.Reads as record-BlockInfo-is_empty
use Rattle.blocks.proofs.record.BlockInfo.add_used_bytes.Reads as record-BlockInfo-add_used_bytes
use Rattle.blocks.proofs.record.BlockInfo.update_stats_after_erase.Reads as record-BlockInfo-update_stats_after_erase
use Rattle.blocks.proofs.scan.scan_block.Reads as scan-scan_block
use Rattle.blocks.proofs.scan.calculate_freeable_space.Reads as scan-calculate_freeable_space

pub format_is_block_data_empty_one : One format-is_block_data_empty.Post (λ _ r e r' e'. r ≡ r')
format_is_block_data_empty_one _ _ r r' e e' p q = answer_one r r' (p ∙ sym q)

pub format_plan_format_one : One format-plan_format.Post (λ _ r e r' e'. r ≡ r')
format_plan_format_one _ _ r r' e e' p q = plan_one (p ∙ sym q)

pub format_format_block_one : One format-format_block.Post (λ _ r e r' e'. (r ≡ r') × (e.1.0.now ≡ e'.1.0.now))
format_format_block_one _ _ r r' e e' p q = stored_one r r' _ _ _ p q

pub format_format_storage_one : One format-format_storage.Post (λ _ r e r' e'. (r ≡ r') × (e.1.0.now ≡ e'.1.0.now))
format_format_storage_one _ _ r r' e e' p q = stored_one r r' _ _ _ p q

pub format_set_block_type_one : One format-set_block_type.Post (λ _ r e r' e'. (r ≡ r') × (e.1.0.now ≡ e'.1.0.now))
format_set_block_type_one _ _ r r' e e' p q = stored_one r r' _ _ _ p q

pub header_U8FromBlockType_from_one : One header-U8FromBlockType-from.Post (λ _ r e r' e'. r ≡ r')
header_U8FromBlockType_from_one _ _ r r' e e' p q = p ∙ sym q

pub header_U32FromBlockHeaderKind_from_one : One header-U32FromBlockHeaderKind-from.Post (λ _ r e r' e'. r ≡ r')
header_U32FromBlockHeaderKind_from_one _ _ r r' e e' p q = p ∙ sym q

pub header_BlockHeaderKindTryFromU32_try_from_one : One header-BlockHeaderKindTryFromU32-try_from.Post (λ _ r e r' e'. r ≡ r')
header_BlockHeaderKindTryFromU32_try_from_one _ _ r r' e e' p q = answer_one r r' (p ∙ sym q)

pub header_BlockHeaderKind_is_empty_one : One header-BlockHeaderKind-is_empty.Post (λ _ r e r' e'. r ≡ r')
header_BlockHeaderKind_is_empty_one _ _ r r' e e' p q = p ∙ sym q

pub header_BlockHeaderKind_is_known_one : One header-BlockHeaderKind-is_known.Post (λ _ r e r' e'. r ≡ r')
header_BlockHeaderKind_is_known_one _ _ r r' e e' p q = p ∙ sym q

pub header_BlockHeaderKind_is_unknown_one : One header-BlockHeaderKind-is_unknown.Post (λ _ r e r' e'. r ≡ r')
header_BlockHeaderKind_is_unknown_one _ _ r r' e e' p q = p ∙ sym q

pub header_BlockHeader_read_one : One header-BlockHeader-read.Post (λ _ r e r' e'. r ≡ r')
header_BlockHeader_read_one _ _ r r' e e' p q = answer_one r r' (p ∙ sym q)

pub header_BlockHeader_write_one : One header-BlockHeader-write.Post (λ _ r e r' e'. (r ≡ r') × (e.1.1.0.now ≡ e'.1.1.0.now))
header_BlockHeader_write_one _ _ r r' e e' p q = stored_one r r' _ _ _ p q

pub header_BlockHeader_is_empty_one : One header-BlockHeader-is_empty.Post (λ _ r e r' e'. r ≡ r')
header_BlockHeader_is_empty_one _ _ r r' e e' p q = p ∙ sym q

pub record_BlockInfo_new_unknown_one : One record-BlockInfo-new_unknown.Post (λ _ r e r' e'. r ≡ r')
record_BlockInfo_new_unknown_one _ _ r r' e e' p q = p ∙ sym q

pub record_BlockInfo_of_numbers_one : One record-BlockInfo-of_numbers.Post (λ _ r e r' e'. r ≡ r')
record_BlockInfo_of_numbers_one _ _ r r' e e' p q = answer_one r r' (p ∙ sym q)

pub record_BlockInfo_mark_one : One record-BlockInfo-mark.Post (λ _ r e r' e'. r ≡ r')
record_BlockInfo_mark_one _ _ r r' e e' p q = p ∙ sym q

pub record_BlockInfo_free_space_one : One record-BlockInfo-free_space.Post (λ _ r e r' e'. r ≡ r')
record_BlockInfo_free_space_one _ _ r r' e e' p q = answer_one r r' (p ∙ sym q)

pub record_BlockInfo_is_empty_one : One record-BlockInfo-is_empty.Post (λ _ r e r' e'. r ≡ r')
record_BlockInfo_is_empty_one _ _ r r' e e' p q = answer_one r r' (p ∙ sym q)

pub record_BlockInfo_add_used_bytes_one : One record-BlockInfo-add_used_bytes.Post (λ _ r e r' e'. r ≡ r')
record_BlockInfo_add_used_bytes_one _ _ r r' e e' p q = answer_one r r' (p ∙ sym q)

pub record_BlockInfo_update_stats_after_erase_one : One record-BlockInfo-update_stats_after_erase.Post (λ _ r e r' e'. r ≡ r')
record_BlockInfo_update_stats_after_erase_one _ _ r r' e e' p q = answer_one r r' (p ∙ sym q)

pub scan_scan_block_one : One scan-scan_block.Post (λ _ r e r' e'. r ≡ r')
scan_scan_block_one _ _ r r' e e' p q = answer_one r r' (p ∙ sym q)

pub scan_calculate_freeable_space_one : One scan-calculate_freeable_space.Post (λ _ r e r' e'. r ≡ r')
scan_calculate_freeable_space_one _ _ r r' e e' p q = answer_one r r' (p ∙ sym q)
