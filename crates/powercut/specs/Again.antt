-- What can be done after a cut: the same move again, same header and same place.
--
-- Before the copy's finish mark it ends as the uncut move does, byte for byte, and it may itself be cut; that is without the strict mark. Between
-- the marks it gives 4 and stores nothing, and deleting the original ends as the uncut move does, under the mark too.
use Rattle.std.specs.Prelude.{◌≡◌, List, ℕ, ◌+◌, ◌≤◌, max}
use Rattle.medium.specs.declared.geometry.Geometry.{Geometry}
use Rattle.medium.specs.declared.fuse.Fuse.{Fuse}
use Rattle.medium.specs.declared.fuse.Fuse.TheVariants.{Absent, Units}
use Rattle.medium.specs.Operation.{done, refused, run}
use Rattle.objects.specs.declared.types.ObjectType.{ObjectType}
use Rattle.objects.specs.declared.state.ObjectDataState.TheVariants.{Deleted}
use Rattle.objects.specs.declared.state.CompositeObjectState.TheVariants.{Allocated}
use Rattle.objects.specs.declared.location.ObjectLocation.{ObjectLocation}
use Rattle.objects.specs.declared.header.ObjectHeader.{ObjectHeader}
use Rattle.objects.specs.Header.{set_state}
use Rattle.moving.specs.Moving.{move_object}
use Rattle.powercut.specs.Demand.{Movable, units_to}

-- the image that a move leaves when it is cut after k units
abbrev pub left_by : Geometry → ObjectHeader → ObjectLocation → List ℕ → ℕ → List ℕ
left_by g h to img k = (run (Units k) (move_object g h to) img).state

-- the header of the original, deleted
abbrev pub gone_of : ObjectHeader → ObjectType → ObjectHeader
gone_of h t = record { state = Allocated t Deleted; size = h.size; location = h.location }

-- before the finish mark
pub record Resumes (g : Geometry) (h : ObjectHeader) (to : ObjectLocation) (img : List ℕ) (k : ℕ) : Type 0 where
  -- with power: answer, fuse and every byte are those of the uncut move
  pub with_power : run Absent (move_object g h to) (left_by g h to img k) ≡ run Absent (move_object g h to) img
  -- cut again after n units: the answer and the fuse of a first move, and the image of one that is cut at the later of the two
  pub cut_again : (n : ℕ) → run (Units n) (move_object g h to) (left_by g h to img k)
      ≡ record { answer = (run (Units n) (move_object g h to) img).answer; fuse = (run (Units n) (move_object g h to) img).fuse; state = left_by g h to img (max k n) }

-- between the marks
pub record Completes (g : Geometry) (h : ObjectHeader) (to : ObjectLocation) (t : ObjectType) (img left : List ℕ) : Type 0 where
  -- the same move is refused at every fuse, and nothing is stored: a finished object stands at its place
  pub refuses : (f : Fuse) → run f (move_object g h to) left ≡ record { answer = refused 4; fuse = f; state = left }
  -- deleting the original, as `info::delete` does, leaves the image of the uncut move
  pub deleted : run Absent (set_state g h Deleted) left ≡ record { answer = done (gone_of h t); fuse = Absent; state = (run Absent (move_object g h to) img).state }

unfoldable pub Again : Type 0
Again =
    (g : Geometry) (h : ObjectHeader) (to : ObjectLocation) (room : ℕ) (t : ObjectType) (img : List ℕ) → Movable g h to room t img
    → ((g.strict ≡ 1 → ⊥) → (k : ℕ) → k ≤ units_to g h → Resumes g h to img k) × Completes g h to t img (left_by g h to img (units_to g h + 1))
