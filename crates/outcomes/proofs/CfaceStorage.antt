-- Made by tools/outcomes. The contract of each public function of cface_storage allows one outcome.
use mathlib.Core.Path.{◌≡◌, sym, ap, ◌∙◌}
use Rattle.outcomes.proofs.One.{One}
use Rattle.crossing.specs.Crossing.{Telling}
use Rattle.cface_storage.proofs.storage_calls.stumpchoir_lookup.Reads as storage_calls-stumpchoir_lookup
use Rattle.cface_storage.proofs.storage_calls.stumpchoir_file_size.Reads as storage_calls-stumpchoir_file_size
use Rattle.cface_storage.proofs.storage_calls.stumpchoir_file_read.Reads as storage_calls-stumpchoir_file_read
use Rattle.cface_storage.proofs.storage_calls.stumpchoir_names_new.Reads as storage_calls-stumpchoir_names_new
use Rattle.cface_storage.proofs.storage_calls.stumpchoir_names_next.Reads as storage_calls-stumpchoir_names_next

pub storage_calls_stumpchoir_lookup_one : One storage_calls-stumpchoir_lookup.Post (λ _ r e r' e'. (r ≡ r') × (e.1.1.1.1.0.now ≡ e'.1.1.1.1.0.now))
storage_calls_stumpchoir_lookup_one _ _ r r' e e' p q = let s = p ∙ sym q in (ap (λ (z : Telling _). z.number) s, ap (λ (z : Telling _). z.out) s)

pub storage_calls_stumpchoir_file_size_one : One storage_calls-stumpchoir_file_size.Post (λ _ r e r' e'. (r ≡ r') × (e.1.1.1.1.0.now ≡ e'.1.1.1.1.0.now))
storage_calls_stumpchoir_file_size_one _ _ r r' e e' p q = let s = p ∙ sym q in (ap (λ (z : Telling _). z.number) s, ap (λ (z : Telling _). z.out) s)

pub storage_calls_stumpchoir_file_read_one : One storage_calls-stumpchoir_file_read.Post (λ _ r e r' e'. (r ≡ r') × (e.1.1.1.1.1.0.now ≡ e'.1.1.1.1.1.0.now) × (e.1.1.1.1.1.1.0.now ≡ e'.1.1.1.1.1.1.0.now))
storage_calls_stumpchoir_file_read_one _ _ r r' e e' p q = let s = p ∙ sym q in (ap (λ (z : Telling _). z.number) s, ap (λ (z : Telling _). z.out.first) s, ap (λ (z : Telling _). z.out.second) s)

pub storage_calls_stumpchoir_names_new_one : One storage_calls-stumpchoir_names_new.Post (λ _ r e r' e'. (r ≡ r') × (e.1.0.now ≡ e'.1.0.now))
storage_calls_stumpchoir_names_new_one _ _ r r' e e' p q = let s = p ∙ sym q in (ap (λ (z : Telling _). z.number) s, ap (λ (z : Telling _). z.out) s)

pub storage_calls_stumpchoir_names_next_one : One storage_calls-stumpchoir_names_next.Post (λ _ r e r' e'. (r ≡ r') × (e.1.1.0.now ≡ e'.1.1.0.now) × (e.1.1.1.0.now ≡ e'.1.1.1.0.now) × (e.1.1.1.1.0.now ≡ e'.1.1.1.1.0.now) × (e.1.1.1.1.1.0.now ≡ e'.1.1.1.1.1.0.now) × (e.1.1.1.1.1.1.0.now ≡ e'.1.1.1.1.1.1.0.now))
storage_calls_stumpchoir_names_next_one _ _ r r' e e' p q = let s = p ∙ sym q in (ap (λ (z : Telling _). z.number) s, ap (λ (z : Telling _). z.out.first) s, ap (λ (z : Telling _). z.out.second.first) s, ap (λ (z : Telling _). z.out.second.second.first) s, ap (λ (z : Telling _). z.out.second.second.second.first) s, ap (λ (z : Telling _). z.out.second.second.second.second) s)
