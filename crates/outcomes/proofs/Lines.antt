-- Made by tools/outcomes. The contract of each public function of lines allows one outcome.
use mathlib.Core.Path.{◌≡◌, sym, ◌∙◌}
use Rattle.outcomes.proofs.One.{One}
use Rattle.lines.proofs.argument.number_of.Reads as argument-number_of
use Rattle.lines.proofs.block.block_line.Reads as block-block_line
use Rattle.lines.proofs.line.Line.as_bytes.Reads as line-Line-as_bytes
use Rattle.lines.proofs.moment.moment_line.Reads as moment-moment_line
use Rattle.lines.proofs.moment.twin_line.Reads as moment-twin_line
use Rattle.lines.proofs.object.object_line.Reads as object-object_line
use Rattle.lines.proofs.refusal.refusal_line.Reads as refusal-refusal_line

pub argument_number_of_one : One argument-number_of.Post (λ _ r e r' e'. r ≡ r')
argument_number_of_one _ _ r r' e e' p q = p ∙ sym q

pub block_block_line_one : One block-block_line.Post (λ _ r e r' e'. r ≡ r')
block_block_line_one _ _ r r' e e' p q = p.0 ∙ sym q.0

pub line_Line_as_bytes_one : One line-Line-as_bytes.Post (λ _ r e r' e'. r.now ≡ r'.now)
line_Line_as_bytes_one _ _ r r' e e' p q = p.0 ∙ sym q.0

pub moment_moment_line_one : One moment-moment_line.Post (λ _ r e r' e'. r ≡ r')
moment_moment_line_one _ _ r r' e e' p q = p.0 ∙ sym q.0

pub moment_twin_line_one : One moment-twin_line.Post (λ _ r e r' e'. r ≡ r')
moment_twin_line_one _ _ r r' e e' p q = p.0 ∙ sym q.0

pub object_object_line_one : One object-object_line.Post (λ _ r e r' e'. r ≡ r')
object_object_line_one _ _ r r' e e' p q = p.0 ∙ sym q.0

pub refusal_refusal_line_one : One refusal-refusal_line.Post (λ _ r e r' e'. r ≡ r')
refusal_refusal_line_one _ _ r r' e e' p q = p.0 ∙ sym q.0
