-- Made by tools/outcomes. The contract of each public function of cface_batch allows one outcome.
use mathlib.Core.Path.{◌≡◌, sym, ap, ◌∙◌}
use lib.ListN.{get_or}
use Rattle.outcomes.proofs.One.{One}
use Rattle.crossing.specs.Crossing.{Crossing}
use Rattle.cface_batch.proofs.batch_calls.stumpchoir_write_all.Reads as batch_calls-stumpchoir_write_all

pub batch_calls_stumpchoir_write_all_one : One batch_calls-stumpchoir_write_all.Post (λ _ r e r' e'. (r ≡ r') × (e.1.0.now ≡ e'.1.0.now) × (e.1.1.1.0.now ≡ e'.1.1.1.0.now) × (e.1.1.1.1.1.1.1.0.now ≡ e'.1.1.1.1.1.1.1.0.now))
batch_calls_stumpchoir_write_all_one _ _ r r' e e' p q = let s = p ∙ sym q in (ap (λ (z : Crossing _). z.number) s, ap (λ (z : Crossing _). z.state.image) s, ap (λ (z : Crossing _). z.units) s, ap (λ (z : Crossing _). get_or z.state.table 0 0) s)
