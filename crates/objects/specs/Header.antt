-- "The size is s bytes, low first; all FF means unset, taken as payload 0." "`allocate` accepts Free, or Allocated of the same type."
-- "`update_state` to the present state stores nothing."
use Rattle.std.specs.Prelude.{ℕ, ◌+◌, ◌<◌, List, [], ◌∷◌, length, ltb, eqb, Option, Some, None, Result, Ok, Err}
use Rattle.medium.specs.declared.geometry.Geometry.{Geometry}
use Rattle.medium.specs.declared.refusal.Refusal.{Refusal}
use Rattle.medium.specs.Granularity.{pick, size_at}
use Rattle.medium.specs.Geometry.{admit, check_of}
use Rattle.medium.specs.Operation.{Answer, done, refused, and_then, Op, ◌>>◌, give, refuse, test}
use Rattle.medium.specs.Medium.{read_at, write}
use Rattle.objects.specs.declared.types.ObjectType.{ObjectType}
use Rattle.objects.specs.declared.state.ObjectDataState.{ObjectDataState}
use Rattle.objects.specs.declared.state.ObjectDataState.TheVariants.{Valid, Deleted}
use Rattle.objects.specs.declared.state.CompositeObjectState.{CompositeObjectState}
use Rattle.objects.specs.declared.state.CompositeObjectState.TheVariants as comp
use Rattle.objects.specs.declared.state.ObjectState.{ObjectState}
use Rattle.objects.specs.declared.state.ObjectState.TheVariants as state
use Rattle.objects.specs.declared.location.ObjectLocation.{ObjectLocation}
use Rattle.objects.specs.declared.header.ObjectHeader.{ObjectHeader}
use Rattle.objects.specs.Numbers.{number, bytes, unset_of}
use Rattle.objects.specs.Types.{type_byte, rank_to, rank_of, rank_in, mark_at, mark_byte, state_in}

-- a size that was read is one that a size field can say
abbrev pub small_header : Result ObjectHeader Refusal → Type 0
small_header (Ok h) = h.size < 16777216
small_header (Err e) = Unit {0}

-- ---- reading: the state, and then the size

unfoldable pub state_at : Geometry → ObjectLocation → List ℕ → Answer CompositeObjectState
state_at g at img = and_then (read_at g at.block at.offset (size_at g.granularity) img) (λ bs. state_in g.granularity bs)

unfoldable pub sized_at : Geometry → ObjectLocation → CompositeObjectState → List ℕ → Answer ObjectHeader
sized_at g at st img =
    and_then (read_at g at.block (at.offset + size_at g.granularity) g.s img)
    (λ bs. done (record { state = st; size = number bs; location = at }))

unfoldable pub header_at : Geometry → ObjectLocation → List ℕ → Answer ObjectHeader
header_at g at img = and_then (state_at g at img) (λ st. sized_at g at st img)

unfoldable pub payload_size_of : ℕ → ObjectHeader → Option ℕ
payload_size_of s h = pick (eqb h.size (unset_of s)) None (Some h.size)

unfoldable pub payload_of : ℕ → ObjectHeader → ℕ
payload_of s h = pick (eqb h.size (unset_of s)) 0 h.size

-- ---- storing a state

unfoldable pub allocatable_of : ObjectType → CompositeObjectState → Answer (Unit {0})
allocatable_of t comp.Free = done tt
allocatable_of t (comp.Allocated u d) = pick (ltb 1 (rank_to d)) (refused 4) (pick (eqb (type_byte t) (type_byte u)) (done tt) (refused 4))

unfoldable pub marking : Geometry → ObjectHeader → ObjectType → ObjectDataState → Op ObjectHeader
marking g h t to = do
  write g h.location.block (h.location.offset + mark_at g.granularity to) (mark_byte g.granularity to ∷ [])
  give (record { state = comp.Allocated t to; size = h.size; location = h.location })

abbrev pub step_to : Geometry → ObjectHeader → ObjectDataState → CompositeObjectState → Op ObjectHeader
step_to g h to comp.Free = refuse 4
step_to g h to (comp.Allocated t d) = pick (eqb (rank_to d) (rank_to to)) (give h) (pick (ltb (rank_to to) (rank_to d)) (refuse 4) (marking g h t to))

-- the mark of a data state
unfoldable pub set_state : Geometry → ObjectHeader → ObjectDataState → Op ObjectHeader
set_state g h to = do
  test (λ img. check_of g (length img))
  step_to g h to h.state

-- a target that has no mark: 9 for Free, and Allocated is only kept
abbrev pub stayed : ObjectHeader → ℕ → ℕ
stayed h to = pick (eqb to 0) 9 (pick (eqb (rank_of h.state) 1) 0 4)

unfoldable pub stay_of : Geometry → ObjectHeader → ℕ → ObjectState → ℕ
stay_of g h room to = admit g room (stayed h (rank_in to))

unfoldable pub staying : Geometry → ObjectHeader → ℕ → Op ObjectHeader
staying g h to = do
  test (λ img. admit g (length img) (stayed h to))
  give h

unfoldable pub update_state : Geometry → ObjectHeader → ObjectState → Op ObjectHeader
update_state g h state.Free = staying g h 0
update_state g h state.Allocated = staying g h 1
update_state g h state.Finalized = set_state g h Valid
update_state g h state.Deleted = set_state g h Deleted

-- ---- storing a size, which may be done once

unfoldable pub sizable_of : Geometry → ObjectHeader → ℕ → ℕ
sizable_of g h room = admit g room (pick (eqb h.size (unset_of g.s)) 0 4)

abbrev pub with_size : ObjectHeader → ℕ → ObjectHeader
with_size h n = record { state = h.state; size = n; location = h.location }

unfoldable pub set_payload_size : Geometry → ObjectHeader → ℕ → Op ObjectHeader
set_payload_size g h n = do
  test (λ img. sizable_of g h (length img))
  write g h.location.block (h.location.offset + size_at g.granularity) (bytes g.s n)
  give (with_size h n)
