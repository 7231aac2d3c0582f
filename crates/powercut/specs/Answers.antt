-- What follows from the demand, as an auditor asks it. Could the object be gone? Could there be two of it? Does copying touch the original?
use Rattle.std.specs.Prelude.{◌≡◌, ◌⊎◌, List, ℕ, ◌+◌, ◌-◌, ◌≤◌, ◌<◌, length, get_or}
use Rattle.medium.specs.declared.geometry.Geometry.{Geometry}
use Rattle.medium.specs.declared.fuse.Fuse.{Fuse}
use Rattle.medium.specs.declared.fuse.Fuse.TheVariants.{Absent, Units}
use Rattle.medium.specs.Operation.{done, refused, End, run}
use Rattle.objects.specs.declared.types.ObjectType.{ObjectType}
use Rattle.objects.specs.declared.location.ObjectLocation.{ObjectLocation}
use Rattle.objects.specs.declared.header.ObjectHeader.{ObjectHeader}
use Rattle.objects.specs.Info.{span_of}
use Rattle.moving.specs.Moving.{copy_object, move_object}
use Rattle.powercut.specs.Demand.{Whole, Unfinished, address_of, payload_in, copy_of, Clear, Movable, units_to}

-- never gone: at every cut, and with no fuse, one of the two reads finished and whole
unfoldable pub NeverGone : Type 0
NeverGone =
    (g : Geometry) (h : ObjectHeader) (to : ObjectLocation) (room : ℕ) (t : ObjectType) (img : List ℕ) → Movable g h to room t img → (f : Fuse)
    → Whole g h t (payload_in g h img) (run f (move_object g h to) img).state ⊎ Whole g (copy_of g h to) t (payload_in g h img) (run f (move_object g h to) img).state

-- two of it at one number of units and at no other: type, payload, size and finish mark, and not the delete mark
pub record TwoAt (g : Geometry) (h : ObjectHeader) (to : ObjectLocation) (t : ObjectType) (payload : List ℕ) (k : ℕ) (last : List ℕ) : Type 0 where
  pub then : k ≡ units_to g h + 1 → Whole g h t payload last × Whole g (copy_of g h to) t payload last
  pub only_then : Whole g h t payload last × Whole g (copy_of g h to) t payload last → k ≡ units_to g h + 1

unfoldable pub TwoOnce : Type 0
TwoOnce =
    (g : Geometry) (h : ObjectHeader) (to : ObjectLocation) (room : ℕ) (t : ObjectType) (img : List ℕ) → Movable g h to room t img → (k : ℕ)
    → TwoAt g h to t (payload_in g h img) k (run (Units k) (move_object g h to) img).state

-- a copy, cut anywhere: the original reads whole throughout, and no byte outside the copy's span changes
pub record Kept (g : Geometry) (h : ObjectHeader) (to : ObjectLocation) (t : ObjectType) (payload img last : List ℕ) : Type 0 where
  pub original : Whole g h t payload last
  pub long : length last ≡ length img
  pub elsewhere : (j : ℕ) → Clear (address_of g to) (address_of g to + span_of g.granularity g.s h) j → get_or last j 0 ≡ get_or img j 0

pub record Copied (g : Geometry) (h : ObjectHeader) (to : ObjectLocation) (t : ObjectType) (payload img : List ℕ) (k : ℕ) (e : End ObjectHeader) : Type 0 where
  pub kept : Kept g h to t payload img e.state
  pub before_mark : k ≤ units_to g h → Unfinished g to t e.state
  pub after_mark : units_to g h + 1 ≤ k → Whole g (copy_of g h to) t payload e.state
  pub lost : k < units_to g h + 1 → (e.answer ≡ refused 8) × (e.fuse ≡ Units 0)
  pub copied : units_to g h + 1 ≤ k → (e.answer ≡ done (copy_of g h to)) × (e.fuse ≡ Units (k - (units_to g h + 1)))

-- and with power throughout
pub record CopiedWhole (g : Geometry) (h : ObjectHeader) (to : ObjectLocation) (t : ObjectType) (payload img : List ℕ) (e : End ObjectHeader) : Type 0 where
  pub kept : Kept g h to t payload img e.state
  pub copy : Whole g (copy_of g h to) t payload e.state
  pub copied : e.answer ≡ done (copy_of g h to)
  pub no_fuse : e.fuse ≡ Absent

unfoldable pub CopyKeeps : Type 0
CopyKeeps =
    (g : Geometry) (h : ObjectHeader) (to : ObjectLocation) (room : ℕ) (t : ObjectType) (img : List ℕ) → Movable g h to room t img
    → CopiedWhole g h to t (payload_in g h img) img (run Absent (copy_object g h to) img)
    × ((k : ℕ) → Copied g h to t (payload_in g h img) img k (run (Units k) (copy_object g h to) img))
