-- What the strict mark means for a move: when its premise holds by itself, what is left where it fails, and the same move again.
use Rattle.std.specs.Prelude.{◌≡◌, List, true, ℕ, ◌+◌, ◌≤◌, ◌<◌, get_or}
use Rattle.medium.specs.declared.geometry.Geometry.{Geometry}
use Rattle.medium.specs.declared.fuse.Fuse.{Fuse}
use Rattle.medium.specs.Granularity.{width_of, delete_at}
use Rattle.medium.specs.Geometry.{geometry_ok}
use Rattle.medium.specs.Operation.{done, refused, run}
use Rattle.objects.specs.declared.types.ObjectType.{ObjectType}
use Rattle.objects.specs.declared.state.ObjectDataState.TheVariants.{Valid}
use Rattle.objects.specs.declared.state.CompositeObjectState.TheVariants.{Allocated}
use Rattle.objects.specs.declared.location.ObjectLocation.{ObjectLocation}
use Rattle.objects.specs.declared.header.ObjectHeader.{ObjectHeader}
use Rattle.objects.specs.Header.{header_at}
use Rattle.moving.specs.Moving.{move_object}
use Rattle.powercut.specs.Demand.{address_of, Movable, units_to}
use Rattle.powercut.specs.Again.{left_by}

-- "under Word(1) it follows": where a unit is a byte, an object that reads as finished has its delete mark free
unfoldable pub FreeByBytes : Type 0
FreeByBytes =
    (g : Geometry) (h : ObjectHeader) (t : ObjectType) (img : List ℕ) → geometry_ok g ≡ true → g.strict ≡ 1 → width_of g.granularity ≡ 1
    → header_at g h.location img ≡ done h → h.state ≡ Allocated t Valid
    → (i : ℕ) → i < width_of g.granularity → get_or img (address_of g h.location + delete_at g.granularity + i) 0 ≡ 255

-- before the copy's finish mark, once a unit of it is programmed, the same move is refused and stores nothing: the type's unit is in the way
unfoldable pub SameMoveRefused : Type 0
SameMoveRefused =
    (g : Geometry) (h : ObjectHeader) (to : ObjectLocation) (room : ℕ) (t : ObjectType) (img : List ℕ) → Movable g h to room t img → g.strict ≡ 1
    → (k : ℕ) → 1 ≤ k → k ≤ units_to g h → (f : Fuse) → run f (move_object g h to) (left_by g h to img k) ≡ record { answer = refused 10; fuse = f; state = left_by g h to img k }
