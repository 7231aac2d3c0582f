-- A move of a metadata object is cut between its two marks, and then the store is swept.
--
-- The street stands twice then, as original and as copy, both finished. A store that could be swept before the move can be swept then; the sweep leaves
-- one of the two, the first in block order; and every street is found and reads as before the move, wherever the sweep itself is cut.
use Rattle.std.specs.Prelude.{◌≡◌, ◌⊎◌, ◌≢◌, true, false, List, ℕ, ◌+◌, leb}
use Rattle.medium.specs.declared.geometry.Geometry.{Geometry}
use Rattle.medium.specs.declared.fuse.Fuse.{Fuse}
use Rattle.medium.specs.declared.fuse.Fuse.TheVariants.{Absent}
use Rattle.medium.specs.Granularity.{pick}
use Rattle.medium.specs.Operation.{done}
use Rattle.objects.specs.declared.types.ObjectType.{ObjectType}
use Rattle.objects.specs.declared.location.ObjectLocation.{ObjectLocation}
use Rattle.objects.specs.declared.header.ObjectHeader.{ObjectHeader}
use Rattle.objects.specs.Payload.{read_payload}
use Rattle.blocks.specs.declared.header.BlockType.TheVariants.{Metadata}
use Rattle.storage.specs.Order.{is_of}
use Rattle.storage.specs.Lookup.{is_named, lookup}
use Rattle.storage.specs.File.{read_file, file_size}
use Rattle.storage.specs.Laws.{All}
use Rattle.powercut.specs.Demand.{Movable, units_to}
use Rattle.powercut.specs.Listed.{Listable}
use Rattle.powercut.specs.Again as move
use Rattle.sweep.specs.Referring.{metadata_in, sweepable}
use Rattle.sweep.specs.Twins.{is_twin}
use Rattle.sweep.specs.Laws.{Clean, AnyOf}
use Rattle.sweep.specs.Laws as sweep

-- the image that the cut leaves: the copy has its finish mark, and the original no delete mark
abbrev pub cut_between : Geometry → ObjectHeader → ObjectLocation → List ℕ → List ℕ
cut_between g h to img = move.left_by g h to img (units_to g h + 1)

-- of the two places, the one that a lookup comes to first, and the other; in one block the original is the first
abbrev pub first_of : ObjectHeader → ObjectLocation → ObjectLocation
first_of h to = pick (leb h.location.block to.block) h.location to

abbrev pub second_of : ObjectHeader → ObjectLocation → ObjectLocation
second_of h to = pick (leb h.location.block to.block) to h.location

-- what holds of every Finalized metadata object of a store but the one at a place
abbrev pub AllBut : ObjectLocation → (ObjectHeader → Type 0) → Geometry → List ℕ → Type 0
AllBut l P g img = All (λ e. (e.location ≡ l) ⊎ P e) (metadata_in g img)

-- one of the two is left: an object of the original's type and payload at the first place, and none at the second
pub record OneLeft (g : Geometry) (h : ObjectHeader) (to : ObjectLocation) (img left : List ℕ) : Type 0 where
  pub stands : AnyOf (λ e. (e.location ≡ first_of h to) × (e.state ≡ h.state) × (read_payload g e left ≡ read_payload g h img)) (metadata_in g left)
  pub gone : All (λ e. e.location ≢ second_of h to) (metadata_in g left)

-- another street is found where it was, and reads the same
pub record OtherSame (g : Geometry) (path : List ℕ) (hash : ℕ) (img left : List ℕ) : Type 0 where
  pub found : lookup g path hash left ≡ lookup g path hash img
  pub reads : (at : ObjectLocation) → lookup g path hash img ≡ done at → (p n : ℕ) → read_file g at p n left ≡ read_file g at p n img
  pub size : (at : ObjectLocation) → lookup g path hash img ≡ done at → file_size g at left ≡ file_size g at img

-- the street that was moved is found at the first place, and reads as the original did
pub record OwnSame (g : Geometry) (path : List ℕ) (hash : ℕ) (h : ObjectHeader) (to : ObjectLocation) (img left : List ℕ) : Type 0 where
  pub found : lookup g path hash left ≡ done (first_of h to)
  pub reads : (p n : ℕ) → read_file g (first_of h to) p n left ≡ read_file g h.location p n img
  pub size : file_size g (first_of h to) left ≡ file_size g h.location img

-- or, where the store had others like the original already, as earlier cuts leave them, at one of them
pub record LikeSame (g : Geometry) (path : List ℕ) (hash : ℕ) (h : ObjectHeader) (img left : List ℕ) : Type 0 where
  pub at : ObjectLocation
  pub found : lookup g path hash left ≡ done at
  pub reads : (p n : ℕ) → read_file g at p n left ≡ read_file g h.location p n img
  pub size : file_size g at left ≡ file_size g h.location img

-- of an image with the two of them
pub record Mended (g : Geometry) (h : ObjectHeader) (to : ObjectLocation) (img both : List ℕ) : Type 0 where
  -- the sweep is not refused
  pub ready : sweepable g both ≡ done tt
  -- no two objects are alike then, and nothing is unreferred
  pub clean : Clean g (sweep.left_by Absent g both)
  -- where no other object was like the original
  pub one : AllBut h.location (λ e. is_twin g img e h ≡ false) g img → OneLeft g h to img (sweep.left_by Absent g both)
  -- with power throughout, and at every cut of the sweep
  pub others : (f : Fuse) (path : List ℕ) (hash : ℕ) → is_named g path hash h img ≡ done false → OtherSame g path hash img (sweep.left_by f g both)
  pub own : (f : Fuse) (path : List ℕ) (hash : ℕ) → is_named g path hash h img ≡ done true → AllBut h.location (λ e. is_named g path hash e img ≡ done false) g img
      → OwnSame g path hash h to img (sweep.left_by f g both)
  pub alike : (f : Fuse) (path : List ℕ) (hash : ℕ) → is_named g path hash h img ≡ done true
      → All (λ e. (is_twin g img e h ≡ true) ⊎ (is_named g path hash e img ≡ done false)) (metadata_in g img) → LikeSame g path hash h img (sweep.left_by f g both)

-- for every move from a Metadata block to the free end of one, in a store that could be swept
unfoldable pub CutMoveMended : Type 0
CutMoveMended =
    (g : Geometry) (h : ObjectHeader) (to : ObjectLocation) (room : ℕ) (t : ObjectType) (img : List ℕ) → Movable g h to room t img → Listable g h to room img
    → is_of g Metadata h.location.block img ≡ done true → is_of g Metadata to.block img ≡ done true → sweepable g img ≡ done tt
    → Mended g h to img (cut_between g h to img)
