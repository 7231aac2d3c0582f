-- Made by tools/outcomes. The contract of each public function of geometry_record allows one outcome.
use mathlib.Core.Path.{◌≡◌, sym, ◌∙◌}
use Rattle.outcomes.proofs.One.{One}
use Rattle.medium.proofs.Refusals.{answer_one}
use Rattle.geometry_record.proofs.geometry_of.Reads as geometry_of

pub geometry_of_one : One geometry_of.Post (λ _ r e r' e'. r ≡ r')
geometry_of_one _ _ r r' e e' p q = answer_one r r' (p ∙ sym q)
