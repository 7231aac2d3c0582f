-- What a move leaves when the power is cut after any number of programmed units.
--
-- "Take a finished object lying aligned and whole in its block, its header just read, and a destination span in one block, erased, aligned,
-- large enough and apart from the object. With power throughout, the move is done. Cut the power after any number of programmed units while
-- it is moved. Before the copy's finish mark is programmed, the original reads whole and the copy reads as free or unfinished. Between that
-- mark and the original's delete mark, both read with equal type and payload. After that only the copy reads as finished, whole. No byte
-- changes outside the destination span and the original's state mark."
--
-- How a place reads (`Whole`, `Unfinished`, `Gone`) is said in crates/shown/specs/Whole.antt.
use Rattle.std.specs.Prelude.{◌≡◌, ◌⊎◌, ◌≢◌, List, ℕ, ◌+◌, ◌-◌, ◌%◌, ◌≤◌, ◌<◌, length, get_or}
use Rattle.medium.specs.declared.geometry.Geometry.{Geometry}
use Rattle.medium.specs.declared.fuse.Fuse.TheVariants.{Absent, Units}
use Rattle.medium.specs.Granularity.{width_of, delete_at}
use Rattle.medium.specs.Geometry.{check_of, address}
use Rattle.medium.specs.Operation.{done, refused, End, run}
use Rattle.medium.specs.Medium.{part}
use Rattle.objects.specs.declared.types.ObjectType.{ObjectType}
use Rattle.objects.specs.declared.state.ObjectDataState.TheVariants.{Valid}
use Rattle.objects.specs.declared.state.CompositeObjectState.TheVariants.{Allocated}
use Rattle.objects.specs.declared.location.ObjectLocation.{ObjectLocation}
use Rattle.objects.specs.declared.header.ObjectHeader.{ObjectHeader}
use Rattle.objects.specs.Header.{header_at, payload_of}
use Rattle.objects.specs.Info.{total_of, span_of}
use Rattle.objects.specs.Payload.{payload_at}
use Rattle.moving.specs.Moving.{move_object}
pub use Rattle.shown.specs.Whole.{reader_of, Whole, Unfinished, Gone}
pub use Rattle.fresh.specs.Units.{address_of, Clear, units_before}

-- the payload that the image has for a header
abbrev pub payload_in : Geometry → ObjectHeader → List ℕ → List ℕ
payload_in g h img = part (address g h.location.block (payload_at g h)) (payload_of g.s h) img

-- the header that the copy is to have
abbrev pub copy_of : Geometry → ObjectHeader → ObjectLocation → ObjectHeader
copy_of g h to = record { state = h.state; size = payload_of g.s h; location = to }

-- ---- what is given

pub record Movable (g : Geometry) (h : ObjectHeader) (to : ObjectLocation) (room : ℕ) (t : ObjectType) (img : List ℕ) : Type 0 where
  -- a valid geometry and an image of its length, of bytes
  pub fine : check_of g (length img) ≡ 0
  pub bytes : (j : ℕ) → get_or img j 0 < 256
  -- a finished object, its header just read, aligned and whole in its block
  pub just_read : header_at g h.location img ≡ done h
  pub finished : h.state ≡ Allocated t Valid
  pub aligned : h.location.offset % width_of g.granularity ≡ 0
  pub whole : h.location.offset + total_of g.granularity g.s h ≤ g.size
  -- under the strict mark, "where the unit of the original's delete mark is all FF"
  pub free_mark : g.strict ≡ 1 → (i : ℕ) → i < width_of g.granularity → get_or img (address_of g h.location + delete_at g.granularity + i) 0 ≡ 255
  -- a destination of `room` bytes in one block: erased, aligned, large enough and apart from the object
  pub block : to.block < g.count
  pub in_block : to.offset + room ≤ g.size
  pub erased : (i : ℕ) → i < room → get_or img (address_of g to + i) 0 ≡ 255
  pub aligned_to : to.offset % width_of g.granularity ≡ 0
  pub large : span_of g.granularity g.s h ≤ room
  pub apart : (address_of g h.location + total_of g.granularity g.s h ≤ address_of g to) ⊎ (address_of g to + room ≤ address_of g h.location)

-- ---- what is left

-- the units of type, payload and size: all that is stored before the copy's finish mark, which is one unit more, as is the delete mark
abbrev pub units_to : Geometry → ObjectHeader → ℕ
units_to g h = units_before g.granularity g.s (payload_of g.s h)

-- the image keeps its length, and each byte but the copy's span and the original's delete mark
pub record Framed (g : Geometry) (h : ObjectHeader) (to : ObjectLocation) (img last : List ℕ) : Type 0 where
  pub long : length last ≡ length img
  pub elsewhere : (j : ℕ) → Clear (address_of g to) (address_of g to + span_of g.granularity g.s h) j
      → j ≢ address_of g h.location + delete_at g.granularity → get_or last j 0 ≡ get_or img j 0

-- the end of a move that was given k units
pub record Survives (g : Geometry) (h : ObjectHeader) (to : ObjectLocation) (t : ObjectType) (payload img : List ℕ) (k : ℕ) (e : End ObjectHeader) : Type 0 where
  pub before_mark : k ≤ units_to g h → Whole g h t payload e.state × Unfinished g to t e.state
  pub between_marks : k ≡ units_to g h + 1 → Whole g h t payload e.state × Whole g (copy_of g h to) t payload e.state
  pub after_marks : units_to g h + 2 ≤ k → Gone g h t e.state × Whole g (copy_of g h to) t payload e.state
  pub framed : Framed g h to img e.state
  pub lost : k < units_to g h + 2 → (e.answer ≡ refused 8) × (e.fuse ≡ Units 0)
  pub moved : units_to g h + 2 ≤ k → (e.answer ≡ done (copy_of g h to)) × (e.fuse ≡ Units (k - (units_to g h + 2)))

-- the end of a move with power throughout
pub record Moved (g : Geometry) (h : ObjectHeader) (to : ObjectLocation) (t : ObjectType) (payload img : List ℕ) (e : End ObjectHeader) : Type 0 where
  pub moved : e.answer ≡ done (copy_of g h to)
  pub no_fuse : e.fuse ≡ Absent
  pub original : Gone g h t e.state
  pub copy : Whole g (copy_of g h to) t payload e.state
  pub framed : Framed g h to img e.state

-- THE DEMAND: for every geometry, object, destination, image and fuse
unfoldable pub Demand : Type 0
Demand =
    (g : Geometry) (h : ObjectHeader) (to : ObjectLocation) (room : ℕ) (t : ObjectType) (img : List ℕ) → Movable g h to room t img
    → Moved g h to t (payload_in g h img) img (run Absent (move_object g h to) img) × ((k : ℕ) → Survives g h to t (payload_in g h img) img k (run (Units k) (move_object g h to) img))
