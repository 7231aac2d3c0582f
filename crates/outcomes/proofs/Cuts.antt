-- Made by tools/outcomes. The contract of each public function of cuts allows one outcome.
use mathlib.Core.Path.{◌≡◌, sym, ◌∙◌}
use Rattle.outcomes.proofs.One.{One}
use Rattle.outcomes.proofs.Answers.{seen_one}
use Rattle.cuts.proofs.moment.move_under.Reads as moment-move_under

pub moment_move_under_one : One moment-move_under.Post (λ _ r e r' e'. (r ≡ r') × (e.1.0.now ≡ e'.1.0.now))
moment_move_under_one _ _ r r' e e' p q = (seen_one (p.0 ∙ sym q.0), p.1 ∙ sym q.1)
