-- The same of a scan: norfs scans every block when it opens a store, and gives up at the first refusal.
use Rattle.std.specs.Prelude.{◌≡◌, false, List, ℕ, ◌+◌, ◌≤◌}
use Rattle.medium.specs.declared.geometry.Geometry.{Geometry}
use Rattle.medium.specs.Operation.{done, refused}
use Rattle.objects.specs.declared.types.ObjectType.{ObjectType}
use Rattle.objects.specs.declared.location.ObjectLocation.{ObjectLocation}
use Rattle.objects.specs.declared.header.ObjectHeader.{ObjectHeader}
use Rattle.objects.specs.Listing.{listing}
use Rattle.blocks.specs.declared.header.BlockType.{BlockType}
use Rattle.blocks.specs.declared.header.BlockHeaderKind.TheVariants.{Known}
use Rattle.blocks.specs.declared.header.BlockHeader.{BlockHeader}
use Rattle.blocks.specs.BlockHeader.{block_header_at}
use Rattle.blocks.specs.Scan.{listed, scan_block}
use Rattle.powercut.specs.Demand.{payload_in, Movable, units_to}
use Rattle.powercut.specs.Listed.{Listable}
use Rattle.powercut.specs.Again.{left_by}
use Rattle.powercut.specs.Scans.{Text, Second, payload_units}

pub record Rescanned (g : Geometry) (h : ObjectHeader) (to : ObjectLocation) (img : List ℕ) (b : BlockHeader) : Type 0 where
  -- at every cut the block's header is as it was, and the scan is read off the listing
  pub reads : (k : ℕ) → k ≤ units_to g h + 1 → scan_block g to.block (left_by g h to img k) ≡ listed b false (listing g to.block (left_by g h to img k))
  -- so from the first unit of the payload to its last it is refused 2
  pub text : Text (payload_in g h img) → Second g to → (k : ℕ) → 2 ≤ k → k ≤ 1 + payload_units g h → scan_block g to.block (left_by g h to img k) ≡ refused 2

-- for a destination in a block of a known kind
unfoldable pub Rescans : Type 0
Rescans =
    (g : Geometry) (h : ObjectHeader) (to : ObjectLocation) (room : ℕ) (t : ObjectType) (img : List ℕ) → Movable g h to room t img → Listable g h to room img
    → (b : BlockHeader) (kind : BlockType) → block_header_at g to.block img ≡ done b → b.kind ≡ Known kind → Rescanned g h to img b
