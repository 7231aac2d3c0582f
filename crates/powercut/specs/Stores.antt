-- What a move stores, unit by unit: "The writer stores type, then payload, then size, then mark", and then the original's delete mark.
use Rattle.std.specs.Prelude.{◌≡◌, List, ◌++◌, ℕ}
use Rattle.medium.specs.declared.granularity.Granularity.{Granularity}
use Rattle.medium.specs.declared.geometry.Geometry.{Geometry}
use Rattle.medium.specs.Units.{FlashUnit}
use Rattle.objects.specs.declared.types.ObjectType.{ObjectType}
use Rattle.objects.specs.declared.location.ObjectLocation.{ObjectLocation}
use Rattle.objects.specs.declared.header.ObjectHeader.{ObjectHeader}
use Rattle.moving.specs.Moving.{move_object}
pub use Rattle.fresh.specs.Units.{type_units, pay_units, size_units, mark_units, delete_units, before}
use Rattle.powercut.specs.Demand.{Movable, address_of, payload_in}

-- of an object at address p that is moved to address q
abbrev pub move_units : Granularity → ℕ → ObjectType → List ℕ → ℕ → ℕ → List FlashUnit
move_units g s t pay p q = before g s t pay q ++ (mark_units g q ++ delete_units g p)

-- THE ORDER: the units of a move are these, for every object and destination of the demand
unfoldable pub Ordered : Type 0
Ordered =
    (g : Geometry) (h : ObjectHeader) (to : ObjectLocation) (room : ℕ) (t : ObjectType) (img : List ℕ) → Movable g h to room t img
    → (move_object g h to img).events ≡ move_units g.granularity g.s t (payload_in g h img) (address_of g h.location) (address_of g to)
