-- Made by tools/outcomes. The contract of each public function of files allows one outcome.
use mathlib.Core.Path.{◌≡◌, sym, ◌∙◌}
use Rattle.outcomes.proofs.One.{One}
use Rattle.files.proofs.pair.LoadErrorFromRefusal.from.Reads as pair-LoadErrorFromRefusal-from

pub pair_LoadErrorFromRefusal_from_one : One pair-LoadErrorFromRefusal-from.Post (λ _ r e r' e'. r ≡ r')
pair_LoadErrorFromRefusal_from_one _ _ r r' e e' p q = p ∙ sym q
