-- "Types: FileMetadata 8F, FileData 8E, FileName 8D; FF is Free; others give 2." "Mark pairs: FF FF Allocated, 00 FF Finalized, 00 00
-- Deleted; others give 2."; under Bit one byte: FF, F0, 00.
use Rattle.std.specs.Prelude.{ℕ, List, get_or, eqb, Option, Some, None, Result, Ok, Err}
use Rattle.medium.specs.declared.granularity.Granularity.{Granularity}
use Rattle.medium.specs.declared.granularity.Granularity.TheVariants.{Bit, Word1, Word4}
use Rattle.medium.specs.Granularity.{pick, finish_at, delete_at, finish_mark}
use Rattle.medium.specs.declared.refusal.Refusal.{Refusal}
use Rattle.medium.specs.Refusal.{refusal_number}
use Rattle.medium.specs.Operation.{Answer, done, refused}
use Rattle.objects.specs.declared.types.ObjectType.{ObjectType}
use Rattle.objects.specs.declared.types.ObjectType.TheVariants.{FileMetadata, FileData, FileName}
use Rattle.objects.specs.declared.state.ObjectDataState.{ObjectDataState}
use Rattle.objects.specs.declared.state.ObjectDataState.TheVariants.{Untrusted, Valid, Deleted}
use Rattle.objects.specs.declared.state.CompositeObjectState.{CompositeObjectState}
use Rattle.objects.specs.declared.state.CompositeObjectState.TheVariants as comp
use Rattle.objects.specs.declared.state.ObjectState.{ObjectState}
use Rattle.objects.specs.declared.state.ObjectState.TheVariants as state

abbrev pub type_byte : ObjectType → ℕ
type_byte FileMetadata = 0x8F
type_byte FileData = 0x8E
type_byte FileName = 0x8D

-- a type, or that nothing is there
pub data TypeSaid : Type 0 where
  typed : ObjectType → TypeSaid
  untyped : TypeSaid

unfoldable pub type_of : ℕ → Answer TypeSaid
type_of b =
    pick (eqb b 0x8F) (done (typed FileMetadata))
    (pick (eqb b 0x8E) (done (typed FileData))
    (pick (eqb b 0x8D) (done (typed FileName))
    (pick (eqb b 0xFF) (done untyped) (refused 2))))

abbrev pub type_answer : Result (Option ObjectType) Refusal → Answer TypeSaid
type_answer (Ok (Some t)) = done (typed t)
type_answer (Ok None) = done untyped
type_answer (Err e) = refused (refusal_number e)

-- ---- a type that a caller gives as a number: any other than the three gives 4, also Free's FF

abbrev pub object_type_by : Answer TypeSaid → Answer ObjectType
object_type_by (done (typed t)) = done t
object_type_by (done untyped) = refused 4
object_type_by (refused n) = refused 4

unfoldable pub object_type_of : ℕ → Answer ObjectType
object_type_of n = object_type_by (type_of n)

-- ---- the marks

unfoldable pub mark_of : ℕ → Answer ObjectDataState
mark_of b =
    pick (eqb b 0xFF) (done Untrusted)
    (pick (eqb b 0xF0) (done Valid)
    (pick (eqb b 0x00) (done Deleted)
    (refused 2)))

unfoldable pub pair_of : ℕ → ℕ → Answer ObjectDataState
pair_of a b =
    pick (eqb a 0xFF) (pick (eqb b 0xFF) (done Untrusted) (refused 2))
    (pick (eqb a 0x00)
    (pick (eqb b 0xFF) (done Valid)
    (pick (eqb b 0x00) (done Deleted) (refused 2)))
    (refused 2))

unfoldable pub marks_of : Granularity → ℕ → ℕ → Answer ObjectDataState
marks_of Bit a b = mark_of a
marks_of Word1 a b = pair_of a b
marks_of Word4 a b = pair_of a b

-- where the mark of a state stands in the header, and the byte that is stored there
abbrev pub mark_at : Granularity → ObjectDataState → ℕ
mark_at k Untrusted = finish_at k
mark_at k Valid = finish_at k
mark_at k Deleted = delete_at k

abbrev pub mark_byte : Granularity → ObjectDataState → ℕ
mark_byte k Untrusted = 0xFF
mark_byte k Valid = finish_mark k
mark_byte k Deleted = 0x00

-- ---- states, and how far they are: Free 0, Allocated 1, Finalized 2, Deleted 3

abbrev pub rank_to : ObjectDataState → ℕ
rank_to Untrusted = 1
rank_to Valid = 2
rank_to Deleted = 3

abbrev pub rank_of : CompositeObjectState → ℕ
rank_of comp.Free = 0
rank_of (comp.Allocated t d) = rank_to d

-- the type byte, and FF where no object is there
abbrev pub type_number : CompositeObjectState → ℕ
type_number comp.Free = 0xFF
type_number (comp.Allocated t d) = type_byte t

abbrev pub rank_in : ObjectState → ℕ
rank_in state.Free = 0
rank_in state.Allocated = 1
rank_in state.Finalized = 2
rank_in state.Deleted = 3

abbrev pub state_by : ObjectDataState → ObjectState
state_by Untrusted = state.Allocated
state_by Valid = state.Finalized
state_by Deleted = state.Deleted

abbrev pub state_of : CompositeObjectState → ObjectState
state_of comp.Free = state.Free
state_of (comp.Allocated t d) = state_by d

-- ---- the composite state in the bytes before the size field

abbrev pub with_mark : ObjectType → Answer ObjectDataState → Answer CompositeObjectState
with_mark t (done d) = done (comp.Allocated t d)
with_mark t (refused k) = refused k

abbrev pub composite_of : Answer TypeSaid → Answer ObjectDataState → Answer CompositeObjectState
composite_of (done (typed t)) m = with_mark t m
composite_of (done untyped) m = done comp.Free
composite_of (refused k) m = refused k

unfoldable pub state_in : Granularity → List ℕ → Answer CompositeObjectState
state_in k bs = composite_of (type_of (get_or bs 0 0)) (marks_of k (get_or bs (finish_at k) 0) (get_or bs (delete_at k) 0))
