use mathlib.Core.Path.{◌≡◌, refl, ap, ◌∙◌}
use lib.Dec.{eqb}
use Rattle.medium.specs.Operation.{done}
use Rattle.medium.proofs.Refusals.{passed}
use Rattle.blocks.specs.declared.header.BlockType.{BlockType}
use Rattle.blocks.specs.declared.header.BlockType.TheVariants.{Metadata, Data, Undefined}
use Rattle.blocks.specs.declared.header.BlockHeaderKind.{BlockHeaderKind}
use Rattle.blocks.specs.declared.header.BlockHeaderKind.TheVariants.{Empty, Unknown, Known}
use Rattle.blocks.specs.contracts.header.BlockHeaderKindPartialEq.TheImpl as derived
use Rattle.blocks.specs.BlockHeader.{kind_number, type_number}
use Rattle.storage.specs.Order.{is_of}
use Rattle.storage.proofs.visit.is_of.Goals as goal

-- kinds are told apart by their numbers
same_kind : (a : BlockHeaderKind) (t : BlockType) → (derived.ghosts).eq a (Known t) ≡ eqb (kind_number a) (type_number t)
same_kind Empty Metadata = refl
same_kind Empty Data = refl
same_kind Empty Undefined = refl
same_kind Unknown Metadata = refl
same_kind Unknown Data = refl
same_kind Unknown Undefined = refl
same_kind (Known Metadata) Metadata = refl
same_kind (Known Metadata) Data = refl
same_kind (Known Metadata) Undefined = refl
same_kind (Known Data) Metadata = refl
same_kind (Known Data) Data = refl
same_kind (Known Data) Undefined = refl
same_kind (Known Undefined) Metadata = refl
same_kind (Known Undefined) Data = refl
same_kind (Known Undefined) Undefined = refl

pub returns-in_err-h : goal.returns-in_err-h
unfolding is_of
returns-in_err-h c = rw (passed _ _ c.from_residual.ensures, ← c.in_err-h.ensures)

pub returns : goal.returns
unfolding is_of
returns c = rw (← c.in_ok-h.ensures) (ap done (c.eq.ensures ∙ same_kind c.in_ok-h.h.kind c.args.t))
