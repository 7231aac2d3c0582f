-- Made by tools/outcomes. The contract of each public function of collector allows one outcome.
use mathlib.Core.Path.{◌≡◌, ap}
use Rattle.outcomes.proofs.One.{One}
use Rattle.outcomes.proofs.Answers.{stored_one}
use Rattle.medium.specs.Beside.{Both}
use Rattle.collector.proofs.delete_invalid_objects.Reads as delete_invalid_objects
use Rattle.collector.proofs.erase_invalid_finished_blocks.Reads as erase_invalid_finished_blocks
use Rattle.collector.proofs.erase_full_finished_blocks.Reads as erase_full_finished_blocks
use Rattle.collector.proofs.run.Reads as run

pub delete_invalid_objects_one : One delete_invalid_objects.Post (λ _ r e r' e'. (r ≡ r') × (e.1.0.now ≡ e'.1.0.now) × (e.1.1.0.now ≡ e'.1.1.0.now))
delete_invalid_objects_one _ _ r r' e e' p q = let s = stored_one r r' _ _ _ p q in (s.0, ap (λ (z : Both). z.image) s.1, ap (λ (z : Both). z.table) s.1)

pub erase_invalid_finished_blocks_one : One erase_invalid_finished_blocks.Post (λ _ r e r' e'. (r ≡ r') × (e.1.0.now ≡ e'.1.0.now) × (e.1.1.0.now ≡ e'.1.1.0.now))
erase_invalid_finished_blocks_one _ _ r r' e e' p q = let s = stored_one r r' _ _ _ p q in (s.0, ap (λ (z : Both). z.image) s.1, ap (λ (z : Both). z.table) s.1)

pub erase_full_finished_blocks_one : One erase_full_finished_blocks.Post (λ _ r e r' e'. (r ≡ r') × (e.1.0.now ≡ e'.1.0.now) × (e.1.1.0.now ≡ e'.1.1.0.now))
erase_full_finished_blocks_one _ _ r r' e e' p q = let s = stored_one r r' _ _ _ p q in (s.0, ap (λ (z : Both). z.image) s.1, ap (λ (z : Both). z.table) s.1)

pub run_one : One run.Post (λ _ r e r' e'. (r ≡ r') × (e.1.0.now ≡ e'.1.0.now) × (e.1.1.0.now ≡ e'.1.1.0.now))
run_one _ _ r r' e e' p q = let s = stored_one r r' _ _ _ p q in (s.0, ap (λ (z : Both). z.image) s.1, ap (λ (z : Both). z.table) s.1)
