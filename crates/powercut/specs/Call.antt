-- The demand for the call itself: what `move_object` left and answered, by its contract.
use Rattle.std.specs.Prelude.{ℕ, List}
use Rattle.medium.specs.declared.geometry.Geometry.{Geometry}
use Rattle.medium.specs.declared.fuse.Fuse.{Fuse}
use Rattle.medium.specs.declared.fuse.Fuse.TheVariants.{Absent, Units}
use Rattle.medium.specs.Operation.{End}
use Rattle.objects.specs.declared.types.ObjectType.{ObjectType}
use Rattle.objects.specs.declared.location.ObjectLocation.{ObjectLocation}
use Rattle.objects.specs.declared.header.ObjectHeader.{ObjectHeader}
use Rattle.powercut.specs.Demand.{Movable, Moved, Survives, payload_in}

-- with power throughout, or cut after k units
abbrev pub Ends : Geometry → ObjectHeader → ObjectLocation → ObjectType → List ℕ → Fuse → End ObjectHeader → Type 0
Ends g h to t img Absent e = Moved g h to t (payload_in g h img) img e
Ends g h to t img (Units k) e = Survives g h to t (payload_in g h img) img k e

unfoldable pub Survived : Geometry → ObjectHeader → ObjectLocation → List ℕ → Fuse → End ObjectHeader → Type 0
Survived g h to img f e = (room : ℕ) (t : ObjectType) → Movable g h to room t img → Ends g h to t img f e
