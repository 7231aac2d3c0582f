-- Made by tools/outcomes. The contract of each public function of storage allows one outcome.
use mathlib.Core.Path.{◌≡◌, sym, ◌∙◌}
use Rattle.outcomes.proofs.One.{One}
use Rattle.outcomes.proofs.Answers.{name_one, visit_one}
use Rattle.medium.proofs.Refusals.{answer_one}
use Rattle.storage.proofs.file.read.Reads as file-read
use Rattle.storage.proofs.file.size.Reads as file-size
use Rattle.storage.proofs.lookup.lookup.Reads as lookup-lookup
use Rattle.storage.proofs.names.Names.new.Reads as names-Names-new
use Rattle.storage.proofs.names.Names.next.Reads as names-Names-next
use Rattle.storage.proofs.visit.Visitor.new.Reads as visit-Visitor-new
use Rattle.storage.proofs.visit.Visitor.next.Reads as visit-Visitor-next

pub file_read_one : One file-read.Post (λ _ r e r' e'. (r ≡ r') × (e.1.1.1.1.0.now ≡ e'.1.1.1.1.0.now))
file_read_one _ _ r r' e e' p q = (answer_one r r' (p.0 ∙ sym q.0), p.1 ∙ sym q.1)

pub file_size_one : One file-size.Post (λ _ r e r' e'. r ≡ r')
file_size_one _ _ r r' e e' p q = answer_one r r' (p ∙ sym q)

pub lookup_lookup_one : One lookup-lookup.Post (λ _ r e r' e'. r ≡ r')
lookup_lookup_one _ _ r r' e e' p q = answer_one r r' (p ∙ sym q)

pub names_Names_new_one : One names-Names-new.Post (λ _ r e r' e'. r ≡ r')
names_Names_new_one _ _ r r' e e' p q = p ∙ sym q

pub names_Names_next_one : One names-Names-next.Post (λ _ r e r' e'. (r ≡ r') × (e.1.1.1.0.now ≡ e'.1.1.1.0.now))
names_Names_next_one _ _ r r' e e' p q = (name_one (p.0 ∙ sym q.0), p.1 ∙ sym q.1)

pub visit_Visitor_new_one : One visit-Visitor-new.Post (λ _ r e r' e'. r ≡ r')
visit_Visitor_new_one _ _ r r' e e' p q = p ∙ sym q

pub visit_Visitor_next_one : One visit-Visitor-next.Post (λ _ r e r' e'. r ≡ r')
visit_Visitor_next_one _ _ r r' e e' p q = visit_one (p.0 ∙ sym q.0)
