-- Made by tools/outcomes. The contract of each public function of crossing allows one outcome.
use mathlib.Core.Path.{◌≡◌, sym, ap, ◌∙◌}
use denote.RattleType.{RattleType}
use denote.Param.Laws.{Laws, IsCopy}
use Rattle.std.specs.declared.clone.Clone.{Ghosts}
use mir.Syntax.{Dict}
use Rattle.crossing.specs.declared.hand.Crosses as crosses
use Rattle.outcomes.proofs.One.{One}
use Rattle.medium.proofs.Refusals.{answer_one}
use Rattle.crossing.specs.Crossing.{Telling}
use Rattle.crossing.proofs.call.ToldFromStopped.from.Reads as call-ToldFromStopped-from
use Rattle.crossing.proofs.call.geometry.Reads as call-geometry
use Rattle.crossing.proofs.call.refusal.Reads as call-refusal
use Rattle.crossing.proofs.call.refusal_alone.Reads as call-refusal_alone
use Rattle.crossing.proofs.call.fuse_of.Reads as call-fuse_of
use Rattle.crossing.proofs.call.hand_back.Reads as call-hand_back
use Rattle.crossing.proofs.hand.ObjectHeaderCrosses.numbers.Reads as hand-ObjectHeaderCrosses-numbers
use Rattle.crossing.proofs.hand.ObjectLocationCrosses.numbers.Reads as hand-ObjectLocationCrosses-numbers
use Rattle.crossing.proofs.hand.ObjectIteratorCrosses.numbers.Reads as hand-ObjectIteratorCrosses-numbers
use Rattle.crossing.proofs.hand.BlockHeaderCrosses.numbers.Reads as hand-BlockHeaderCrosses-numbers
use Rattle.crossing.proofs.hand.BlockInfoCrosses.numbers.Reads as hand-BlockInfoCrosses-numbers
use Rattle.crossing.proofs.hand.BoolCrosses.numbers.Reads as hand-BoolCrosses-numbers
use Rattle.crossing.proofs.hand.UsizeCrosses.numbers.Reads as hand-UsizeCrosses-numbers
use Rattle.crossing.proofs.hand.hand.Reads as hand-hand
use Rattle.crossing.proofs.outs.hand_back.Reads as outs-hand_back
use Rattle.crossing.proofs.outs.hand_info.Reads as outs-hand_info
use Rattle.crossing.proofs.outs.start.Reads as outs-start
use Rattle.crossing.proofs.outs.hand_next.Reads as outs-hand_next
use Rattle.crossing.proofs.records.type_of.Reads as records-type_of
use Rattle.crossing.proofs.records.record_of.Reads as records-record_of
use Rattle.crossing.proofs.values.state_of.Reads as values-state_of
use Rattle.crossing.proofs.values.header_from.Reads as values-header_from
use Rattle.crossing.proofs.values.header_of.Reads as values-header_of
use Rattle.crossing.proofs.values.target_of.Reads as values-target_of
use Rattle.crossing.proofs.values.iterator_of.Reads as values-iterator_of
use Rattle.crossing.proofs.values.reader_of.Reads as values-reader_of
use Rattle.crossing.proofs.values.metadata_of.Reads as values-metadata_of

pub call_ToldFromStopped_from_one : One call-ToldFromStopped-from.Post (λ _ r e r' e'. r ≡ r')
call_ToldFromStopped_from_one _ _ r r' e e' p q = p ∙ sym q

pub call_geometry_one : One call-geometry.Post (λ _ r e r' e'. r ≡ r')
call_geometry_one _ _ r r' e e' p q = p ∙ sym q

pub call_refusal_one : One call-refusal.Post (λ _ r e r' e'. r ≡ r')
call_refusal_one _ _ r r' e e' p q = p ∙ sym q

pub call_refusal_alone_one : One call-refusal_alone.Post (λ _ r e r' e'. r ≡ r')
call_refusal_alone_one _ _ r r' e e' p q = p ∙ sym q

pub call_fuse_of_one : One call-fuse_of.Post (λ _ r e r' e'. r ≡ r')
call_fuse_of_one _ _ r r' e e' p q = p ∙ sym q

pub call_hand_back_one : One call-hand_back.Post (λ _ r e r' e'. (r ≡ r') × (e.1.0.now ≡ e'.1.0.now))
call_hand_back_one _ _ r r' e e' p q = (p.0 ∙ sym q.0, p.1 ∙ sym q.1)

pub hand_ObjectHeaderCrosses_numbers_one : One hand-ObjectHeaderCrosses-numbers.Post (λ _ r e r' e'. r ≡ r')
hand_ObjectHeaderCrosses_numbers_one _ _ r r' e e' p q = p ∙ sym q

pub hand_ObjectLocationCrosses_numbers_one : One hand-ObjectLocationCrosses-numbers.Post (λ _ r e r' e'. r ≡ r')
hand_ObjectLocationCrosses_numbers_one _ _ r r' e e' p q = p ∙ sym q

pub hand_ObjectIteratorCrosses_numbers_one : One hand-ObjectIteratorCrosses-numbers.Post (λ _ r e r' e'. r ≡ r')
hand_ObjectIteratorCrosses_numbers_one _ _ r r' e e' p q = p ∙ sym q

pub hand_BlockHeaderCrosses_numbers_one : One hand-BlockHeaderCrosses-numbers.Post (λ _ r e r' e'. r ≡ r')
hand_BlockHeaderCrosses_numbers_one _ _ r r' e e' p q = p ∙ sym q

pub hand_BlockInfoCrosses_numbers_one : One hand-BlockInfoCrosses-numbers.Post (λ _ r e r' e'. r ≡ r')
hand_BlockInfoCrosses_numbers_one _ _ r r' e e' p q = p ∙ sym q

pub hand_BoolCrosses_numbers_one : One hand-BoolCrosses-numbers.Post (λ _ r e r' e'. r ≡ r')
hand_BoolCrosses_numbers_one _ _ r r' e e' p q = p ∙ sym q

pub hand_UsizeCrosses_numbers_one : One hand-UsizeCrosses-numbers.Post (λ _ r e r' e'. r ≡ r')
hand_UsizeCrosses_numbers_one _ _ r r' e e' p q = p ∙ sym q

pub hand_hand_one : (T N : RattleType) (l : Laws T) (m : Laws N) (c : IsCopy T) (k : IsCopy N) (x : crosses.Ghosts T.Denot N.Denot) (b : Dict) (g : Ghosts T.Denot) (d : Dict) (h : Ghosts N.Denot) (i : Dict) → One (hand-hand.Post T N l m c k x b g d h i) (λ _ r e r' e'. (r ≡ r') × (e.1.0.now ≡ e'.1.0.now))
hand_hand_one T N l m c k x b g d h i _ _ r r' e e' p q = let s = p ∙ sym q in (ap (λ (z : Telling _). z.number) s, ap (λ (z : Telling _). z.out) s)

pub outs_hand_back_one : One outs-hand_back.Post (λ _ r e r' e'. (r ≡ r') × (e.1.0.now ≡ e'.1.0.now) × (e.1.1.0.now ≡ e'.1.1.0.now))
outs_hand_back_one _ _ r r' e e' p q = (p.0 ∙ sym q.0, p.1.0 ∙ sym q.1.0, p.1.1 ∙ sym q.1.1)

pub outs_hand_info_one : One outs-hand_info.Post (λ _ r e r' e'. (r ≡ r') × (e.1.0.now ≡ e'.1.0.now) × (e.1.1.0.now ≡ e'.1.1.0.now))
outs_hand_info_one _ _ r r' e e' p q = let s = p ∙ sym q in (ap (λ (z : Telling _). z.number) s, ap (λ (z : Telling _). z.out.first) s, ap (λ (z : Telling _). z.out.second) s)

pub outs_start_one : One outs-start.Post (λ _ r e r' e'. (r ≡ r') × (e.1.1.0.now ≡ e'.1.1.0.now))
outs_start_one _ _ r r' e e' p q = let s = p ∙ sym q in (ap (λ (z : Telling _). z.number) s, ap (λ (z : Telling _). z.out) s)

pub outs_hand_next_one : One outs-hand_next.Post (λ _ r e r' e'. (r ≡ r') × (e.1.0.now ≡ e'.1.0.now) × (e.1.1.0.now ≡ e'.1.1.0.now) × (e.1.1.1.0.now ≡ e'.1.1.1.0.now))
outs_hand_next_one _ _ r r' e e' p q = let s = p ∙ sym q in (ap (λ (z : Telling _). z.number) s, ap (λ (z : Telling _). z.out.first) s, ap (λ (z : Telling _). z.out.second.first) s, ap (λ (z : Telling _). z.out.second.second) s)

pub records_type_of_one : One records-type_of.Post (λ _ r e r' e'. r ≡ r')
records_type_of_one _ _ r r' e e' p q = answer_one r r' (p ∙ sym q)

pub records_record_of_one : One records-record_of.Post (λ _ r e r' e'. r ≡ r')
records_record_of_one _ _ r r' e e' p q = answer_one r r' (p ∙ sym q)

pub values_state_of_one : One values-state_of.Post (λ _ r e r' e'. r ≡ r')
values_state_of_one _ _ r r' e e' p q = answer_one r r' (p ∙ sym q)

pub values_header_from_one : One values-header_from.Post (λ _ r e r' e'. r ≡ r')
values_header_from_one _ _ r r' e e' p q = answer_one r r' (p ∙ sym q)

pub values_header_of_one : One values-header_of.Post (λ _ r e r' e'. r ≡ r')
values_header_of_one _ _ r r' e e' p q = answer_one r r' (p ∙ sym q)

pub values_target_of_one : One values-target_of.Post (λ _ r e r' e'. r ≡ r')
values_target_of_one _ _ r r' e e' p q = answer_one r r' (p ∙ sym q)

pub values_iterator_of_one : One values-iterator_of.Post (λ _ r e r' e'. r ≡ r')
values_iterator_of_one _ _ r r' e e' p q = p ∙ sym q

pub values_reader_of_one : One values-reader_of.Post (λ _ r e r' e'. r ≡ r')
values_reader_of_one _ _ r r' e e' p q = answer_one r r' (p ∙ sym q)

pub values_metadata_of_one : One values-metadata_of.Post (λ _ r e r' e'. r ≡ r')
values_metadata_of_one _ _ r r' e e' p q = answer_one r r' (p ∙ sym q)
