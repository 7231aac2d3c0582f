-- Made by tools/outcomes. The contract of each public function of sweep allows one outcome.
use mathlib.Core.Path.{◌≡◌, sym, ◌∙◌}
use Rattle.outcomes.proofs.One.{One}
use Rattle.outcomes.proofs.Answers.{swept_one}
use Rattle.sweep.proofs.sweep.Reads as sweep
use Rattle.sweep.proofs.sweep_with.Reads as sweep_with

pub sweep_one : One sweep.Post (λ _ r e r' e'. (r ≡ r') × (e.1.0.now ≡ e'.1.0.now))
sweep_one _ _ r r' e e' p q = swept_one r r' _ _ _ p q

pub sweep_with_one : One sweep_with.Post (λ _ r e r' e'. (r ≡ r') × (e.1.0.now ≡ e'.1.0.now) × (e.1.1.1.0.now ≡ e'.1.1.1.0.now))
sweep_with_one _ _ r r' e e' p q = let s = swept_one r r' _ _ _ p.0 q.0 in (s.0, s.1, p.1 ∙ sym q.1)
