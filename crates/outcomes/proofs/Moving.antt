-- Made by tools/outcomes. The contract of each public function of moving allows one outcome.
use mathlib.Core.Path.{◌≡◌}
use Rattle.outcomes.proofs.One.{One}
use Rattle.outcomes.proofs.Answers.{handed_one}
use Rattle.moving.proofs.copy_object.Reads as copy_object
use Rattle.moving.proofs.move_object.Reads as move_object

pub copy_object_one : One copy_object.Post (λ _ r e r' e'. (r ≡ r') × (e.1.0.now ≡ e'.1.0.now))
copy_object_one _ _ r r' e e' p q = handed_one r r' _ _ _ p q

pub move_object_one : One move_object.Post (λ _ r e r' e'. (r ≡ r') × (e.1.0.now ≡ e'.1.0.now))
move_object_one _ _ r r' e e' p q = handed_one r r' _ _ _ p q
