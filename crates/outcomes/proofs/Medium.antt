-- Made by tools/outcomes. The contract of each public function of medium allows one outcome.
use mathlib.Core.Path.{◌≡◌, sym, ◌∙◌}
use denote.RattleType.{RattleType}
use denote.Param.Laws.{Laws, IsCopy}
use Rattle.std.specs.declared.clone.Clone.{Ghosts}
use mir.Syntax.{Dict}
use Rattle.outcomes.proofs.One.{One}
use Rattle.outcomes.proofs.Answers.{heard_one, stored_one}
use Rattle.medium.proofs.Refusals.{answer_one, code_one}
use Rattle.medium.proofs.fuse.Fuse.beside.Reads as fuse-Fuse-beside
use Rattle.medium.proofs.fuse.number.Reads as fuse-number
use Rattle.medium.proofs.geometry.GeometryTryFromArrayU326.try_from.Reads as geometry-GeometryTryFromArrayU326-try_from
use Rattle.medium.proofs.geometry.limit.Reads as geometry-limit
use Rattle.medium.proofs.geometry.fit.Reads as geometry-fit
use Rattle.medium.proofs.geometry.check.Reads as geometry-check
use Rattle.medium.proofs.geometry.align.Reads as geometry-align
use Rattle.medium.proofs.granularity.GranularityTryFromU8.try_from.Reads as granularity-GranularityTryFromU8-try_from
use Rattle.medium.proofs.granularity.U8FromGranularity.from.Reads as granularity-U8FromGranularity-from
use Rattle.medium.proofs.granularity.Granularity.width.Reads as granularity-Granularity-width
use Rattle.medium.proofs.granularity.Granularity.align.Reads as granularity-Granularity-align
use Rattle.medium.proofs.granularity.Granularity.most_strict.Reads as granularity-Granularity-most_strict
use Rattle.medium.proofs.granularity.Granularity.finish_at.Reads as granularity-Granularity-finish_at
use Rattle.medium.proofs.granularity.Granularity.delete_at.Reads as granularity-Granularity-delete_at
use Rattle.medium.proofs.granularity.Granularity.finish_mark.Reads as granularity-Granularity-finish_mark
use Rattle.medium.proofs.granularity.Granularity.size_at.Reads as granularity-Granularity-size_at
use Rattle.medium.proofs.granularity.Granularity.object_header.Reads as granularity-Granularity-object_header
use Rattle.medium.proofs.granularity.Granularity.block_header.Reads as granularity-Granularity-block_header
use Rattle.medium.proofs.granularity.Granularity.type_at.Reads as granularity-Granularity-type_at
use Rattle.medium.proofs.granularity.Granularity.layout_bit.Reads as granularity-Granularity-layout_bit
use Rattle.medium.proofs.reach.Reads as reach
use Rattle.medium.proofs.is_erased.Reads as is_erased
use Rattle.medium.proofs.lend.Reads as lend
use Rattle.medium.proofs.read.Reads as read
use Rattle.medium.proofs.write.Reads as write
use Rattle.medium.proofs.erase.Reads as erase
use Rattle.medium.proofs.refusal.Refusal.number.Reads as refusal-Refusal-number
use Rattle.medium.proofs.refusal.number.Reads as refusal-number

pub fuse_Fuse_beside_one : (T : RattleType) (l : Laws T) (c : IsCopy T) (g : Ghosts T.Denot) (d : Dict) → One (fuse-Fuse-beside.Post T l c g d) (λ _ r e r' e'. r ≡ r')
fuse_Fuse_beside_one T l c g d _ _ r r' e e' p q = p ∙ sym q

pub fuse_number_one : One fuse-number.Post (λ _ r e r' e'. r ≡ r')
fuse_number_one _ _ r r' e e' p q = p ∙ sym q

pub geometry_GeometryTryFromArrayU326_try_from_one : One geometry-GeometryTryFromArrayU326-try_from.Post (λ _ r e r' e'. r ≡ r')
geometry_GeometryTryFromArrayU326_try_from_one _ _ r r' e e' p q = answer_one r r' (p ∙ sym q)

pub geometry_limit_one : One geometry-limit.Post (λ _ r e r' e'. r ≡ r')
geometry_limit_one _ _ r r' e e' p q = p ∙ sym q

pub geometry_fit_one : One geometry-fit.Post (λ _ r e r' e'. r ≡ r')
geometry_fit_one _ _ r r' e e' p q = code_one r r' (p ∙ sym q)

pub geometry_check_one : One geometry-check.Post (λ _ r e r' e'. r ≡ r')
geometry_check_one _ _ r r' e e' p q = code_one r r' (p ∙ sym q)

pub geometry_align_one : One geometry-align.Post (λ _ r e r' e'. r ≡ r')
geometry_align_one _ _ r r' e e' p q = answer_one r r' (p ∙ sym q)

pub granularity_GranularityTryFromU8_try_from_one : One granularity-GranularityTryFromU8-try_from.Post (λ _ r e r' e'. r ≡ r')
granularity_GranularityTryFromU8_try_from_one _ _ r r' e e' p q = answer_one r r' (p ∙ sym q)

pub granularity_U8FromGranularity_from_one : One granularity-U8FromGranularity-from.Post (λ _ r e r' e'. r ≡ r')
granularity_U8FromGranularity_from_one _ _ r r' e e' p q = p ∙ sym q

pub granularity_Granularity_width_one : One granularity-Granularity-width.Post (λ _ r e r' e'. r ≡ r')
granularity_Granularity_width_one _ _ r r' e e' p q = p ∙ sym q

pub granularity_Granularity_align_one : One granularity-Granularity-align.Post (λ _ r e r' e'. r ≡ r')
granularity_Granularity_align_one _ _ r r' e e' p q = p ∙ sym q

pub granularity_Granularity_most_strict_one : One granularity-Granularity-most_strict.Post (λ _ r e r' e'. r ≡ r')
granularity_Granularity_most_strict_one _ _ r r' e e' p q = p ∙ sym q

pub granularity_Granularity_finish_at_one : One granularity-Granularity-finish_at.Post (λ _ r e r' e'. r ≡ r')
granularity_Granularity_finish_at_one _ _ r r' e e' p q = p ∙ sym q

pub granularity_Granularity_delete_at_one : One granularity-Granularity-delete_at.Post (λ _ r e r' e'. r ≡ r')
granularity_Granularity_delete_at_one _ _ r r' e e' p q = p ∙ sym q

pub granularity_Granularity_finish_mark_one : One granularity-Granularity-finish_mark.Post (λ _ r e r' e'. r ≡ r')
granularity_Granularity_finish_mark_one _ _ r r' e e' p q = p ∙ sym q

pub granularity_Granularity_size_at_one : One granularity-Granularity-size_at.Post (λ _ r e r' e'. r ≡ r')
granularity_Granularity_size_at_one _ _ r r' e e' p q = p ∙ sym q

pub granularity_Granularity_object_header_one : One granularity-Granularity-object_header.Post (λ _ r e r' e'. r ≡ r')
granularity_Granularity_object_header_one _ _ r r' e e' p q = p ∙ sym q

pub granularity_Granularity_block_header_one : One granularity-Granularity-block_header.Post (λ _ r e r' e'. r ≡ r')
granularity_Granularity_block_header_one _ _ r r' e e' p q = p ∙ sym q

pub granularity_Granularity_type_at_one : One granularity-Granularity-type_at.Post (λ _ r e r' e'. r ≡ r')
granularity_Granularity_type_at_one _ _ r r' e e' p q = p ∙ sym q

pub granularity_Granularity_layout_bit_one : One granularity-Granularity-layout_bit.Post (λ _ r e r' e'. r ≡ r')
granularity_Granularity_layout_bit_one _ _ r r' e e' p q = p ∙ sym q

pub reach_one : One reach.Post (λ _ r e r' e'. r ≡ r')
reach_one _ _ r r' e e' p q = code_one r r' (p ∙ sym q)

pub is_erased_one : One is_erased.Post (λ _ r e r' e'. r ≡ r')
is_erased_one _ _ r r' e e' p q = p ∙ sym q

pub lend_one : One lend.Post (λ _ r e r' e'. r.now ≡ r'.now)
lend_one _ _ r r' e e' p q = p ∙ sym q

pub read_one : One read.Post (λ _ r e r' e'. (r ≡ r') × (e.1.1.1.1.0.now ≡ e'.1.1.1.1.0.now))
read_one _ _ r r' e e' p q = heard_one r r' _ _ _ _ p.0 q.0 p.1 q.1

pub write_one : One write.Post (λ _ r e r' e'. (r ≡ r') × (e.1.0.now ≡ e'.1.0.now))
write_one _ _ r r' e e' p q = stored_one r r' _ _ _ p q

pub erase_one : One erase.Post (λ _ r e r' e'. (r ≡ r') × (e.1.0.now ≡ e'.1.0.now))
erase_one _ _ r r' e e' p q = stored_one r r' _ _ _ p q

pub refusal_Refusal_number_one : One refusal-Refusal-number.Post (λ _ r e r' e'. r ≡ r')
refusal_Refusal_number_one _ _ r r' e e' p q = p ∙ sym q

pub refusal_number_one : (T : RattleType) (l : Laws T) (c : IsCopy T) (g : Ghosts T.Denot) (d : Dict) → One (refusal-number.Post T l c g d) (λ _ r e r' e'. r ≡ r')
refusal_number_one T l c g d _ _ r r' e e' p q = p ∙ sym q
