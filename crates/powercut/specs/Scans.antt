-- At which cuts the destination's block can still be listed, and so scanned, where the destination is the free end of its block.
--
-- The unfinished copy has no size yet, so a listing steps over its header only and reads what is stored of its payload as headers. A payload
-- that begins like text is no header: the listing is refused from the payload's first unit to its last.
use Rattle.std.specs.Prelude.{◌≡◌, ◌≢◌, List, ℕ, ◌+◌, ◌≤◌}
use Rattle.medium.specs.declared.geometry.Geometry.{Geometry}
use Rattle.medium.specs.Granularity.{width_of, units_in, header}
use Rattle.medium.specs.Operation.{done}
use Rattle.objects.specs.declared.types.ObjectType.{ObjectType}
use Rattle.objects.specs.declared.location.ObjectLocation.{ObjectLocation}
use Rattle.objects.specs.declared.header.ObjectHeader.{ObjectHeader}
use Rattle.objects.specs.Numbers.{unset_of}
use Rattle.objects.specs.Header.{payload_of}
use Rattle.objects.specs.Info.{found, info_at}
use Rattle.objects.specs.Listing.{Stop, broken, listing}
pub use Rattle.fresh.specs.Scans.{Ended, Text, Second}
use Rattle.powercut.specs.Demand.{payload_in, Movable, units_to}
use Rattle.powercut.specs.Listed.{Listable}
use Rattle.powercut.specs.Again.{left_by}

-- why the listing of the destination's block stops after a cut at k units
abbrev pub stop_after : Geometry → ObjectHeader → ObjectLocation → List ℕ → ℕ → Stop
stop_after g h to img k = (listing g to.block (left_by g h to img k)).stop

-- how many units the payload takes
abbrev pub payload_units : Geometry → ObjectHeader → ℕ
payload_units g h = units_in (width_of g.granularity) (payload_of g.s h)

pub record Scanned (g : Geometry) (h : ObjectHeader) (to : ObjectLocation) (img : List ℕ) : Type 0 where
  -- nothing is stored, or the type alone
  pub begun : (k : ℕ) → k ≤ 1 → Ended (stop_after g h to img k)
  -- from the first unit of the payload to its last: refused 2
  pub text : Text (payload_in g h img) → Second g to → (k : ℕ) → 2 ≤ k → k ≤ 1 + payload_units g h → stop_after g h to img k ≡ broken 2
  -- the size is stored, the finish mark or not
  pub sized : (k : ℕ) → units_to g h ≤ k → k ≤ units_to g h + 1 → Ended (stop_after g h to img k)
  -- while the bytes of a size of two or three bytes are stored: as long as it reads unset, refused 2, and not after that
  pub unset : Text (payload_in g h img) → Second g to → (k : ℕ) (o : ObjectHeader) → 2 ≤ k → k ≤ units_to g h → info_at g to (left_by g h to img k) ≡ done (found o)
      → o.size ≡ unset_of g.s → stop_after g h to img k ≡ broken 2
  pub set : (k : ℕ) (o : ObjectHeader) → k ≤ units_to g h → info_at g to (left_by g h to img k) ≡ done (found o) → o.size ≢ unset_of g.s → Ended (stop_after g h to img k)
  -- and once the move is done
  pub moved : (k : ℕ) → units_to g h + 2 ≤ k → Ended (stop_after g h to img k)
  -- where no second header fits, never
  pub narrow : g.size ≤ to.offset + header g.granularity g.s + header g.granularity g.s → (k : ℕ) → k ≤ units_to g h + 1 → Ended (stop_after g h to img k)

unfoldable pub Scans : Type 0
Scans =
    (g : Geometry) (h : ObjectHeader) (to : ObjectLocation) (room : ℕ) (t : ObjectType) (img : List ℕ) → Movable g h to room t img → Listable g h to room img
    → Scanned g h to img
