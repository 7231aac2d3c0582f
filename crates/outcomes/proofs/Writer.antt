-- Made by tools/outcomes. The contract of each public function of writer allows one outcome.
use mathlib.Core.Path.{◌≡◌, sym, ◌∙◌}
use Rattle.outcomes.proofs.One.{One}
use Rattle.outcomes.proofs.Answers.{allocated_one, handed_one, writing_one}
use Rattle.medium.proofs.Refusals.{answer_one}
use Rattle.writer.proofs.writer.ObjectWriter.allocate.Reads as writer-ObjectWriter-allocate
use Rattle.writer.proofs.writer.ObjectWriter.write.Reads as writer-ObjectWriter-write
use Rattle.writer.proofs.writer.ObjectWriter.finalize.Reads as writer-ObjectWriter-finalize
use Rattle.writer.proofs.writer.ObjectWriter.delete.Reads as writer-ObjectWriter-delete
use Rattle.writer.proofs.writer.ObjectWriter.write_to.Reads as writer-ObjectWriter-write_to
use Rattle.writer.proofs.writer.ObjectWriter.try_allocate.Reads as writer-ObjectWriter-try_allocate
use Rattle.writer.proofs.writer.ObjectWriter.try_write.Reads as writer-ObjectWriter-try_write
use Rattle.writer.proofs.writer.ObjectWriter.try_finalize.Reads as writer-ObjectWriter-try_finalize
use Rattle.writer.proofs.writer.ObjectWriter.try_delete.Reads as writer-ObjectWriter-try_delete
use Rattle.writer.proofs.writer.ObjectWriter.space.Reads as writer-ObjectWriter-space
use Rattle.writer.proofs.writer.ObjectWriter.payload_size.Reads as writer-ObjectWriter-payload_size
use Rattle.writer.proofs.writer.ObjectWriter.total_size.Reads as writer-ObjectWriter-total_size

pub writer_ObjectWriter_allocate_one : One writer-ObjectWriter-allocate.Post (λ _ r e r' e'. (r ≡ r') × (e.1.0.now ≡ e'.1.0.now))
writer_ObjectWriter_allocate_one _ _ r r' e e' p q = allocated_one r r' _ _ _ _ p.0 q.0 p.1 q.1

pub writer_ObjectWriter_write_one : One writer-ObjectWriter-write.Post (λ _ r e r' e'. (r ≡ r') × (e.1.1.0.now ≡ e'.1.1.0.now))
writer_ObjectWriter_write_one _ _ r r' e e' p q = writing_one r r' _ _ _ _ p.0 q.0 p.1 q.1

pub writer_ObjectWriter_finalize_one : One writer-ObjectWriter-finalize.Post (λ _ r e r' e'. (r ≡ r') × (e.1.1.0.now ≡ e'.1.1.0.now))
writer_ObjectWriter_finalize_one _ _ r r' e e' p q = writing_one r r' _ _ _ _ p.0 q.0 p.1 q.1

pub writer_ObjectWriter_delete_one : One writer-ObjectWriter-delete.Post (λ _ r e r' e'. (r ≡ r') × (e.1.1.0.now ≡ e'.1.1.0.now))
writer_ObjectWriter_delete_one _ _ r r' e e' p q = writing_one r r' _ _ _ _ p.0 q.0 p.1 q.1

pub writer_ObjectWriter_write_to_one : One writer-ObjectWriter-write_to.Post (λ _ r e r' e'. (r ≡ r') × (e.1.0.now ≡ e'.1.0.now))
writer_ObjectWriter_write_to_one _ _ r r' e e' p q = handed_one r r' _ _ _ p q

pub writer_ObjectWriter_try_allocate_one : One writer-ObjectWriter-try_allocate.Post (λ _ r e r' e'. (r ≡ r') × (e.1.0.now ≡ e'.1.0.now))
writer_ObjectWriter_try_allocate_one _ _ r r' e e' p q = handed_one r r' _ _ _ p q

pub writer_ObjectWriter_try_write_one : One writer-ObjectWriter-try_write.Post (λ _ r e r' e'. (r ≡ r') × (e.1.1.0.now ≡ e'.1.1.0.now))
writer_ObjectWriter_try_write_one _ _ r r' e e' p q = handed_one r r' _ _ _ p q

pub writer_ObjectWriter_try_finalize_one : One writer-ObjectWriter-try_finalize.Post (λ _ r e r' e'. (r ≡ r') × (e.1.1.0.now ≡ e'.1.1.0.now))
writer_ObjectWriter_try_finalize_one _ _ r r' e e' p q = handed_one r r' _ _ _ p q

pub writer_ObjectWriter_try_delete_one : One writer-ObjectWriter-try_delete.Post (λ _ r e r' e'. (r ≡ r') × (e.1.1.0.now ≡ e'.1.1.0.now))
writer_ObjectWriter_try_delete_one _ _ r r' e e' p q = handed_one r r' _ _ _ p q

pub writer_ObjectWriter_space_one : One writer-ObjectWriter-space.Post (λ _ r e r' e'. r ≡ r')
writer_ObjectWriter_space_one _ _ r r' e e' p q = answer_one r r' (p ∙ sym q)

pub writer_ObjectWriter_payload_size_one : One writer-ObjectWriter-payload_size.Post (λ _ r e r' e'. r ≡ r')
writer_ObjectWriter_payload_size_one _ _ r r' e e' p q = answer_one r r' (p ∙ sym q)

pub writer_ObjectWriter_total_size_one : One writer-ObjectWriter-total_size.Post (λ _ r e r' e'. r ≡ r')
writer_ObjectWriter_total_size_one _ _ r r' e e' p q = answer_one r r' (p ∙ sym q)
