-- What a cut leaves of `write_to`, wherever it would be done with power: a new object, cut there. Where its place is erased, `Fresh` says what that
-- reads as.
use Rattle.std.specs.Prelude.{◌≡◌, List, ℕ, ◌+◌, ◌-◌, ◌%◌, ◌≤◌, ◌<◌, length}
use Rattle.medium.specs.declared.geometry.Geometry.{Geometry}
use Rattle.medium.specs.declared.fuse.Fuse.TheVariants.{Absent, Units}
use Rattle.medium.specs.Granularity.{width_of, header}
use Rattle.medium.specs.Operation.{apply, done, refused, run}
use Rattle.objects.specs.declared.types.ObjectType.{ObjectType}
use Rattle.objects.specs.declared.location.ObjectLocation.{ObjectLocation}
use Rattle.writer.specs.Writer.{write_to}
use Rattle.fresh.specs.Units.{address_of, new_units}
use Rattle.fresh.specs.Fresh.{after, marks_after, Room}

pub record WriteCut (g : Geometry) (at : ObjectLocation) (t : ObjectType) (src img : List ℕ) : Type 0 where
  pub with_power : (run Absent (write_to g at t src) img).state ≡ apply (new_units g.granularity g.s t src (address_of g at)) img
  pub cut_at : (k : ℕ) → (run (Units k) (write_to g at t src) img).state ≡ after g at t src img k

unfoldable pub Writes : Type 0
Writes = (g : Geometry) (at : ObjectLocation) (t : ObjectType) (src img : List ℕ) (n : ℕ) → (write_to g at t src img).answer ≡ done n → WriteCut g at t src img

-- at an erased and aligned place with room for it, it is done with power
unfoldable pub WriteDone : Type 0
WriteDone =
    (g : Geometry) (at : ObjectLocation) (t : ObjectType) (src img : List ℕ) → Room g at src img → at.offset % width_of g.granularity ≡ 0
    → (write_to g at t src img).answer ≡ done (header g.granularity g.s + length src)

-- and under a fuse that is enough for its units, else it is cut
pub record Fused (g : Geometry) (at : ObjectLocation) (t : ObjectType) (src img : List ℕ) : Type 0 where
  pub enough : (k : ℕ) → marks_after g src + 1 ≤ k
      → run (Units k) (write_to g at t src) img ≡ record { answer = done (header g.granularity g.s + length src); fuse = Units (k - (marks_after g src + 1)); state = after g at t src img k }
  pub short : (k : ℕ) → k < marks_after g src + 1 → run (Units k) (write_to g at t src) img ≡ record { answer = refused 8; fuse = Units 0; state = after g at t src img k }

unfoldable pub WriteFused : Type 0
WriteFused =
    (g : Geometry) (at : ObjectLocation) (t : ObjectType) (src img : List ℕ) → Room g at src img → at.offset % width_of g.granularity ≡ 0 → Fused g at t src img

-- without the strict mark: after a cut before its finish mark the same call again, with power, ends as the uncut one
unfoldable pub WriteAgain : Type 0
WriteAgain =
    (g : Geometry) (at : ObjectLocation) (t : ObjectType) (src img : List ℕ) → Room g at src img → at.offset % width_of g.granularity ≡ 0 → (g.strict ≡ 1 → ⊥) → (k : ℕ) → k ≤ marks_after g src
    → run Absent (write_to g at t src) (after g at t src img k)
    ≡ record { answer = done (header g.granularity g.s + length src); fuse = Absent; state = after g at t src img (marks_after g src + 1) }
