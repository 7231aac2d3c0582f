-- Formatting: a block that is erased and has no header gets one; an Undefined block with nothing in it stays; any other is erased and gets a
-- new header, with one erase more where the old count is known. "Format of a Data block, erase count 4,294,967,295: 2, nothing stored".
use Rattle.std.specs.Prelude.{ℕ, zero, suc, ◌+◌, ◌-◌, List, [], ◌∷◌, Bool, true, false, Result, Ok, Err, length, eqb}
use Rattle.medium.specs.declared.refusal.Refusal.{Refusal}
use Rattle.medium.specs.Refusal.{refusal_number}
use Rattle.medium.specs.declared.geometry.Geometry.{Geometry}
use Rattle.medium.specs.Granularity.{pick, block_header, type_at}
use Rattle.medium.specs.Geometry.{check_of}
use Rattle.medium.specs.Operation.{Answer, done, refused, and_then, Op, ◌>>=◌, ◌>>◌, ask, give, test}
use Rattle.medium.specs.Strict.{all_ff}
use Rattle.medium.specs.Medium.{read_at, write, erase}
use Rattle.blocks.specs.declared.header.BlockType.{BlockType}
use Rattle.blocks.specs.declared.header.BlockType.TheVariants.{Metadata, Data, Undefined}
use Rattle.blocks.specs.declared.header.BlockHeaderKind.{BlockHeaderKind}
use Rattle.blocks.specs.declared.header.BlockHeaderKind.TheVariants.{Empty, Unknown, Known}
use Rattle.blocks.specs.declared.header.BlockHeader.{BlockHeader}
use Rattle.blocks.specs.declared.format.Plan.{Plan}
use Rattle.blocks.specs.declared.format.Plan.TheVariants as plan
use Rattle.blocks.specs.BlockHeader.{type_byte, write_header, block_header_at}

-- ---- is there anything behind the header?

-- the bytes of a block behind its header
abbrev pub data_length : Geometry → ℕ
data_length g = g.size - block_header g.granularity

unfoldable pub data_empty_at : Geometry → ℕ → List ℕ → Answer Bool
data_empty_at g b img = and_then (read_at g b (block_header g.granularity) (data_length g) img) (λ bs. done (all_ff bs))

-- ---- what a format will store: nothing, a header, or an erase and then a header

pub data Planned : Type 0 where
  keep : Planned
  label : Planned
  renew : ℕ → Planned

abbrev pub plan_answer : Result Plan Refusal → Answer Planned
plan_answer (Ok plan.Keep) = done keep
plan_answer (Ok plan.Label) = done label
plan_answer (Ok (plan.Renew n)) = done (renew n)
plan_answer (Err e) = refused (refusal_number e)

unfoldable pub again : ℕ → Answer Planned
again n = pick (eqb n 4294967295) (refused 2) (done (renew (n + 1)))

-- an empty header over empty data is not erased
abbrev pub plan_empty : Answer Bool → Answer Planned
plan_empty (done true) = done label
plan_empty (done false) = done (renew 0)
plan_empty (refused k) = refused k

abbrev pub plan_undefined : ℕ → Answer Bool → Answer Planned
plan_undefined n (done true) = done keep
plan_undefined n (done false) = again n
plan_undefined n (refused k) = refused k

unfoldable pub plan_known : BlockType → ℕ → Answer Bool → Answer Planned
plan_known Metadata n e = again n
plan_known Data n e = again n
plan_known Undefined n e = plan_undefined n e

unfoldable pub plan_of : BlockHeaderKind → ℕ → Answer Bool → Answer Planned
plan_of Empty n e = pick (eqb n 4294967295) (plan_empty e) (done (renew 0))
plan_of Unknown n e = done (renew 0)
plan_of (Known t) n e = plan_known t n e

unfoldable pub plan_at : Geometry → ℕ → List ℕ → Answer Planned
plan_at g b img = and_then (block_header_at g b img) (λ h. plan_of h.kind h.erase_count (data_empty_at g b img))

-- ---- the stores

abbrev pub undefined : ℕ → BlockHeader
undefined n = record { kind = Known Undefined; erase_count = n }

unfoldable pub labelling : Geometry → ℕ → ℕ → Op (Unit {0})
labelling g b n = write_header g b (undefined n)

unfoldable pub renewing : Geometry → ℕ → ℕ → Op (Unit {0})
renewing g b n = do
  erase g b
  labelling g b n

abbrev pub carry_out : Geometry → ℕ → Planned → Op (Unit {0})
carry_out g b keep = give tt
carry_out g b label = labelling g b 0
carry_out g b (renew n) = renewing g b n

unfoldable pub format_block : Geometry → ℕ → Op (Unit {0})
format_block g b = do
  p ← ask (λ img. plan_at g b img)
  carry_out g b p

-- n blocks from b up
unfoldable pub format_from : ℕ → Geometry → ℕ → Op (Unit {0})
format_from zero g b = give tt
format_from (suc n) g b = do
  format_block g b
  format_from n g (b + 1)

unfoldable pub format_storage : Geometry → Op (Unit {0})
format_storage g = do
  test (λ img. check_of g (length img))
  format_from g.count g 0

-- one store of the type byte
unfoldable pub set_block_type : Geometry → ℕ → BlockType → Op (Unit {0})
set_block_type g b t = write g b (type_at g.granularity) (type_byte t ∷ [])
