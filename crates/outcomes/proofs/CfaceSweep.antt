-- Made by tools/outcomes. The contract of each public function of cface_sweep allows one outcome.
use mathlib.Core.Path.{◌≡◌, sym, ap, ◌∙◌}
use lib.ListN.{get_or}
use Rattle.outcomes.proofs.One.{One}
use Rattle.crossing.specs.Crossing.{Crossing}
use Rattle.cface_sweep.proofs.sweep_calls.stumpchoir_sweep.Reads as sweep_calls-stumpchoir_sweep
use Rattle.cface_sweep.proofs.sweep_calls.stumpchoir_sweep_with.Reads as sweep_calls-stumpchoir_sweep_with

pub sweep_calls_stumpchoir_sweep_one : One sweep_calls-stumpchoir_sweep.Post (λ _ r e r' e'. (r ≡ r') × (e.1.0.now ≡ e'.1.0.now) × (e.1.1.1.0.now ≡ e'.1.1.1.0.now) × (e.1.1.1.1.0.now ≡ e'.1.1.1.1.0.now) × (e.1.1.1.1.1.0.now ≡ e'.1.1.1.1.1.0.now))
sweep_calls_stumpchoir_sweep_one _ _ r r' e e' p q = let s = p ∙ sym q in (ap (λ (z : Crossing _). z.number) s, ap (λ (z : Crossing _). z.state.image) s, ap (λ (z : Crossing _). z.units) s, ap (λ (z : Crossing _). get_or z.state.table 0 0) s, ap (λ (z : Crossing _). get_or z.state.table 1 0) s)

pub sweep_calls_stumpchoir_sweep_with_one : One sweep_calls-stumpchoir_sweep_with.Post (λ _ r e r' e'. (r ≡ r') × (e.1.0.now ≡ e'.1.0.now) × (e.1.1.1.0.now ≡ e'.1.1.1.0.now) × (e.1.1.1.1.0.now ≡ e'.1.1.1.1.0.now) × (e.1.1.1.1.1.0.now ≡ e'.1.1.1.1.1.0.now) × (e.1.1.1.1.1.1.0.now ≡ e'.1.1.1.1.1.1.0.now))
sweep_calls_stumpchoir_sweep_with_one _ _ r r' e e' p q = let s = p.0 ∙ sym q.0 in (ap (λ (z : Crossing _). z.number) s, ap (λ (z : Crossing _). z.state.image) s, ap (λ (z : Crossing _). z.units) s, ap (λ (z : Crossing _). get_or z.state.table 0 0) s, ap (λ (z : Crossing _). get_or z.state.table 1 0) s, p.1 ∙ sym q.1)
