-- Made by tools/outcomes. The contract of each public function of batch allows one outcome.
use mathlib.Core.Path.{◌≡◌}
use Rattle.outcomes.proofs.One.{One}
use Rattle.outcomes.proofs.Answers.{batched_one}
use Rattle.batch.proofs.write_all.Reads as write_all

pub write_all_one : One write_all.Post (λ _ r e r' e'. (r ≡ r') × (e.1.0.now ≡ e'.1.0.now))
write_all_one _ _ r r' e e' p q = batched_one r r' _ _ _ p q
