-- Made by tools/outcomes. The contract of each public function of cface_blocks allows one outcome.
use mathlib.Core.Path.{◌≡◌, sym, ap, ◌∙◌}
use Rattle.outcomes.proofs.One.{One}
use Rattle.crossing.specs.Crossing.{Crossing, Telling}
use Rattle.cface_blocks.proofs.block_calls.stumpchoir_block_header_read.Reads as block_calls-stumpchoir_block_header_read
use Rattle.cface_blocks.proofs.block_calls.stumpchoir_block_header_write.Reads as block_calls-stumpchoir_block_header_write
use Rattle.cface_blocks.proofs.block_calls.stumpchoir_is_block_data_empty.Reads as block_calls-stumpchoir_is_block_data_empty
use Rattle.cface_blocks.proofs.block_calls.stumpchoir_format_block.Reads as block_calls-stumpchoir_format_block
use Rattle.cface_blocks.proofs.block_calls.stumpchoir_format_storage.Reads as block_calls-stumpchoir_format_storage
use Rattle.cface_blocks.proofs.block_calls.stumpchoir_scan_block.Reads as block_calls-stumpchoir_scan_block
use Rattle.cface_blocks.proofs.block_calls.stumpchoir_set_block_type.Reads as block_calls-stumpchoir_set_block_type
use Rattle.cface_blocks.proofs.block_calls.stumpchoir_calculate_freeable_space.Reads as block_calls-stumpchoir_calculate_freeable_space
use Rattle.cface_blocks.proofs.collector_calls.stumpchoir_delete_invalid_objects.Reads as collector_calls-stumpchoir_delete_invalid_objects
use Rattle.cface_blocks.proofs.collector_calls.stumpchoir_erase_invalid_finished_blocks.Reads as collector_calls-stumpchoir_erase_invalid_finished_blocks
use Rattle.cface_blocks.proofs.collector_calls.stumpchoir_erase_full_finished_blocks.Reads as collector_calls-stumpchoir_erase_full_finished_blocks
use Rattle.cface_blocks.proofs.collector_calls.stumpchoir_run.Reads as collector_calls-stumpchoir_run
use Rattle.cface_blocks.proofs.record_calls.stumpchoir_record_free_space.Reads as record_calls-stumpchoir_record_free_space
use Rattle.cface_blocks.proofs.record_calls.stumpchoir_record_is_empty.Reads as record_calls-stumpchoir_record_is_empty
use Rattle.cface_blocks.proofs.record_calls.stumpchoir_record_add_used_bytes.Reads as record_calls-stumpchoir_record_add_used_bytes
use Rattle.cface_blocks.proofs.record_calls.stumpchoir_record_update_stats_after_erase.Reads as record_calls-stumpchoir_record_update_stats_after_erase

pub block_calls_stumpchoir_block_header_read_one : One block_calls-stumpchoir_block_header_read.Post (λ _ r e r' e'. (r ≡ r') × (e.1.1.1.0.now ≡ e'.1.1.1.0.now))
block_calls_stumpchoir_block_header_read_one _ _ r r' e e' p q = let s = p ∙ sym q in (ap (λ (z : Telling _). z.number) s, ap (λ (z : Telling _). z.out) s)

pub block_calls_stumpchoir_block_header_write_one : One block_calls-stumpchoir_block_header_write.Post (λ _ r e r' e'. (r ≡ r') × (e.1.0.now ≡ e'.1.0.now) × (e.1.1.1.0.now ≡ e'.1.1.1.0.now))
block_calls_stumpchoir_block_header_write_one _ _ r r' e e' p q = let s = p ∙ sym q in (ap (λ (z : Crossing _). z.number) s, ap (λ (z : Crossing _). z.state) s, ap (λ (z : Crossing _). z.units) s)

pub block_calls_stumpchoir_is_block_data_empty_one : One block_calls-stumpchoir_is_block_data_empty.Post (λ _ r e r' e'. (r ≡ r') × (e.1.1.1.0.now ≡ e'.1.1.1.0.now))
block_calls_stumpchoir_is_block_data_empty_one _ _ r r' e e' p q = let s = p ∙ sym q in (ap (λ (z : Telling _). z.number) s, ap (λ (z : Telling _). z.out) s)

pub block_calls_stumpchoir_format_block_one : One block_calls-stumpchoir_format_block.Post (λ _ r e r' e'. (r ≡ r') × (e.1.0.now ≡ e'.1.0.now) × (e.1.1.1.0.now ≡ e'.1.1.1.0.now))
block_calls_stumpchoir_format_block_one _ _ r r' e e' p q = let s = p ∙ sym q in (ap (λ (z : Crossing _). z.number) s, ap (λ (z : Crossing _). z.state) s, ap (λ (z : Crossing _). z.units) s)

pub block_calls_stumpchoir_format_storage_one : One block_calls-stumpchoir_format_storage.Post (λ _ r e r' e'. (r ≡ r') × (e.1.0.now ≡ e'.1.0.now) × (e.1.1.1.0.now ≡ e'.1.1.1.0.now))
block_calls_stumpchoir_format_storage_one _ _ r r' e e' p q = let s = p ∙ sym q in (ap (λ (z : Crossing _). z.number) s, ap (λ (z : Crossing _). z.state) s, ap (λ (z : Crossing _). z.units) s)

pub block_calls_stumpchoir_scan_block_one : One block_calls-stumpchoir_scan_block.Post (λ _ r e r' e'. (r ≡ r') × (e.1.1.1.0.now ≡ e'.1.1.1.0.now))
block_calls_stumpchoir_scan_block_one _ _ r r' e e' p q = let s = p ∙ sym q in (ap (λ (z : Telling _). z.number) s, ap (λ (z : Telling _). z.out) s)

pub block_calls_stumpchoir_set_block_type_one : One block_calls-stumpchoir_set_block_type.Post (λ _ r e r' e'. (r ≡ r') × (e.1.0.now ≡ e'.1.0.now) × (e.1.1.1.0.now ≡ e'.1.1.1.0.now))
block_calls_stumpchoir_set_block_type_one _ _ r r' e e' p q = let s = p ∙ sym q in (ap (λ (z : Crossing _). z.number) s, ap (λ (z : Crossing _). z.state) s, ap (λ (z : Crossing _). z.units) s)

pub block_calls_stumpchoir_calculate_freeable_space_one : One block_calls-stumpchoir_calculate_freeable_space.Post (λ _ r e r' e'. (r ≡ r') × (e.1.1.1.0.now ≡ e'.1.1.1.0.now))
block_calls_stumpchoir_calculate_freeable_space_one _ _ r r' e e' p q = let s = p ∙ sym q in (ap (λ (z : Telling _). z.number) s, ap (λ (z : Telling _). z.out) s)

pub collector_calls_stumpchoir_delete_invalid_objects_one : One collector_calls-stumpchoir_delete_invalid_objects.Post (λ _ r e r' e'. (r ≡ r') × (e.1.0.now ≡ e'.1.0.now) × (e.1.1.1.0.now ≡ e'.1.1.1.0.now) × (e.1.1.1.1.0.now ≡ e'.1.1.1.1.0.now))
collector_calls_stumpchoir_delete_invalid_objects_one _ _ r r' e e' p q = let s = p ∙ sym q in (ap (λ (z : Crossing _). z.number) s, ap (λ (z : Crossing _). z.state.image) s, ap (λ (z : Crossing _). z.units) s, ap (λ (z : Crossing _). z.state.table) s)

pub collector_calls_stumpchoir_erase_invalid_finished_blocks_one : One collector_calls-stumpchoir_erase_invalid_finished_blocks.Post (λ _ r e r' e'. (r ≡ r') × (e.1.0.now ≡ e'.1.0.now) × (e.1.1.1.0.now ≡ e'.1.1.1.0.now) × (e.1.1.1.1.0.now ≡ e'.1.1.1.1.0.now))
collector_calls_stumpchoir_erase_invalid_finished_blocks_one _ _ r r' e e' p q = let s = p ∙ sym q in (ap (λ (z : Crossing _). z.number) s, ap (λ (z : Crossing _). z.state.image) s, ap (λ (z : Crossing _). z.units) s, ap (λ (z : Crossing _). z.state.table) s)

pub collector_calls_stumpchoir_erase_full_finished_blocks_one : One collector_calls-stumpchoir_erase_full_finished_blocks.Post (λ _ r e r' e'. (r ≡ r') × (e.1.0.now ≡ e'.1.0.now) × (e.1.1.1.0.now ≡ e'.1.1.1.0.now) × (e.1.1.1.1.0.now ≡ e'.1.1.1.1.0.now))
collector_calls_stumpchoir_erase_full_finished_blocks_one _ _ r r' e e' p q = let s = p ∙ sym q in (ap (λ (z : Crossing _). z.number) s, ap (λ (z : Crossing _). z.state.image) s, ap (λ (z : Crossing _). z.units) s, ap (λ (z : Crossing _). z.state.table) s)

pub collector_calls_stumpchoir_run_one : One collector_calls-stumpchoir_run.Post (λ _ r e r' e'. (r ≡ r') × (e.1.0.now ≡ e'.1.0.now) × (e.1.1.1.0.now ≡ e'.1.1.1.0.now) × (e.1.1.1.1.0.now ≡ e'.1.1.1.1.0.now))
collector_calls_stumpchoir_run_one _ _ r r' e e' p q = let s = p ∙ sym q in (ap (λ (z : Crossing _). z.number) s, ap (λ (z : Crossing _). z.state.image) s, ap (λ (z : Crossing _). z.units) s, ap (λ (z : Crossing _). z.state.table) s)

pub record_calls_stumpchoir_record_free_space_one : One record_calls-stumpchoir_record_free_space.Post (λ _ r e r' e'. (r ≡ r') × (e.1.1.0.now ≡ e'.1.1.0.now))
record_calls_stumpchoir_record_free_space_one _ _ r r' e e' p q = let s = p ∙ sym q in (ap (λ (z : Telling _). z.number) s, ap (λ (z : Telling _). z.out) s)

pub record_calls_stumpchoir_record_is_empty_one : One record_calls-stumpchoir_record_is_empty.Post (λ _ r e r' e'. (r ≡ r') × (e.1.1.0.now ≡ e'.1.1.0.now))
record_calls_stumpchoir_record_is_empty_one _ _ r r' e e' p q = let s = p ∙ sym q in (ap (λ (z : Telling _). z.number) s, ap (λ (z : Telling _). z.out) s)

pub record_calls_stumpchoir_record_add_used_bytes_one : One record_calls-stumpchoir_record_add_used_bytes.Post (λ _ r e r' e'. (r ≡ r') × (e.1.0.now ≡ e'.1.0.now))
record_calls_stumpchoir_record_add_used_bytes_one _ _ r r' e e' p q = let s = p ∙ sym q in (ap (λ (z : Telling _). z.number) s, ap (λ (z : Telling _). z.out) s)

pub record_calls_stumpchoir_record_update_stats_after_erase_one : One record_calls-stumpchoir_record_update_stats_after_erase.Post (λ _ r e r' e'. (r ≡ r') × (e.1.0.now ≡ e'.1.0.now))
record_calls_stumpchoir_record_update_stats_after_erase_one _ _ r r' e e' p q = let s = p ∙ sym q in (ap (λ (z : Telling _). z.number) s, ap (λ (z : Telling _). z.out) s)
