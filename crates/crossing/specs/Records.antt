-- Block headers, records, types and flags that cross as numbers. "Impossible" is "a table kind above 4 or allow mark above 1"; as the type
-- of a block, a kind below 2 too.
use Rattle.std.specs.Prelude.{ℕ, Bool, true, false, List, [], ◌∷◌, get_or, eqb}
use Rattle.medium.specs.Granularity.{pick}
use Rattle.medium.specs.Operation.{Answer, done, refused}
use Rattle.blocks.specs.declared.header.BlockType.{BlockType}
use Rattle.blocks.specs.declared.header.BlockType.TheVariants.{Metadata, Data, Undefined}
use Rattle.blocks.specs.declared.header.BlockHeaderKind.{BlockHeaderKind}
use Rattle.blocks.specs.declared.header.BlockHeader.{BlockHeader}
use Rattle.blocks.specs.declared.record.BlockInfo.{BlockInfo}
use Rattle.blocks.specs.BlockHeader.{kind_number}
use Rattle.blocks.specs.Record.{info_of}
pub use Rattle.blocks.specs.Record.{record_numbers}

-- ---- a type: 2 Metadata, 3 Data, 4 Undefined

unfoldable pub block_type_of : ℕ → Answer BlockType
block_type_of n =
    pick (eqb n 2) (done Metadata)
    (pick (eqb n 3) (done Data)
    (pick (eqb n 4) (done Undefined) (refused 4)))

-- ---- a header: kind, erase count

abbrev pub block_header_numbers : BlockHeader → List ℕ
block_header_numbers h = kind_number h.kind ∷ h.erase_count ∷ []

abbrev pub block_header_of : BlockHeaderKind → ℕ → BlockHeader
block_header_of k n = record { kind = k; erase_count = n }

-- ---- a record: kind, erase count, used bytes, allow mark

abbrev pub record_of : List ℕ → Answer BlockInfo
record_of ns = info_of (get_or ns 0 0) (get_or ns 1 0) (get_or ns 2 0) (get_or ns 3 0)

-- ---- yes or no

abbrev pub flag_number : Bool → ℕ
flag_number true = 1
flag_number false = 0
