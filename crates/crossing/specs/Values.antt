-- The values that cross as numbers. "Impossible" numbers give 4: a type and a state that are no composite state, a state above 3, "a cursor
-- above 65,536".
use Rattle.std.specs.Prelude.{ℕ, List, [], ◌∷◌, ◌++◌, get_or, eqb, Option, Some, None, Result, Ok, Err}
use Rattle.medium.specs.Granularity.{pick}
use Rattle.medium.specs.Operation.{Answer, done, refused, and_then, or_refuse}
use Rattle.objects.specs.declared.types.ObjectType.{ObjectType}
use Rattle.objects.specs.declared.state.ObjectDataState.TheVariants.{Untrusted, Valid, Deleted}
use Rattle.objects.specs.declared.state.CompositeObjectState.{CompositeObjectState}
use Rattle.objects.specs.declared.state.CompositeObjectState.TheVariants as comp
use Rattle.objects.specs.declared.state.ObjectState.{ObjectState}
use Rattle.objects.specs.declared.state.ObjectState.TheVariants as state
use Rattle.objects.specs.declared.location.ObjectLocation.{ObjectLocation}
use Rattle.objects.specs.declared.header.ObjectHeader.{ObjectHeader}
use Rattle.objects.specs.declared.reader.ObjectReader.{ObjectReader}
use Rattle.objects.specs.declared.metadata.MetadataObjectHeader.{MetadataObjectHeader}
use Rattle.objects.specs.declared.iterator.ObjectIterator.{ObjectIterator}
use Rattle.objects.specs.declared.iterator.Next.{Next}
use Rattle.objects.specs.declared.iterator.Next.TheVariants as next
use Rattle.objects.specs.Types.{TypeSaid, typed, untyped, type_of, rank_of, type_number}
use Rattle.objects.specs.Reader.{possible}
use Rattle.objects.specs.Info.{Info, found, none}
use Rattle.objects.specs.Listing.{placed, Met, object, free_place, block_end}
use Rattle.crossing.specs.Crossing.{Two, two}
use Rattle.crossing.specs.declared.values.Target.{Target}

-- ---- the state of an object: type and state number

unfoldable pub data_state_of : ObjectType → ℕ → Answer CompositeObjectState
data_state_of t n =
    pick (eqb n 1) (done (comp.Allocated t Untrusted))
    (pick (eqb n 2) (done (comp.Allocated t Valid))
    (pick (eqb n 3) (done (comp.Allocated t Deleted)) (refused 4)))

abbrev pub state_by : Answer TypeSaid → ℕ → Answer CompositeObjectState
state_by (done (typed t)) n = data_state_of t n
state_by (done untyped) n = pick (eqb n 0) (done comp.Free) (refused 4)
state_by (refused k) n = refused 4

-- type FF with state 0, or one of the three types with another
unfoldable pub state_of : ℕ → ℕ → Answer CompositeObjectState
state_of kind n = state_by (type_of kind) n

-- ---- locations and iterators: block, offset

abbrev pub located : ℕ → ℕ → ObjectLocation
located block offset = record { block = block; offset = offset }

abbrev pub location_numbers : ObjectLocation → List ℕ
location_numbers l = l.block ∷ l.offset ∷ []

abbrev pub iterator_of : List ℕ → ObjectIterator
iterator_of ns = placed (get_or ns 0 0) (get_or ns 1 0)

abbrev pub iterator_numbers : ObjectIterator → List ℕ
iterator_numbers i = location_numbers i.location

-- ---- headers: type, state, size, block, offset

unfoldable pub header_from : ℕ → ℕ → ℕ → ℕ → ℕ → Answer ObjectHeader
header_from kind n size block offset =
    and_then (state_of kind n) (λ st. done (record { state = st; size = size; location = located block offset }))

abbrev pub header_of : List ℕ → Answer ObjectHeader
header_of ns = header_from (get_or ns 0 0) (get_or ns 1 0) (get_or ns 2 0) (get_or ns 3 0) (get_or ns 4 0)

abbrev pub header_numbers : ObjectHeader → List ℕ
header_numbers h = type_number h.state ∷ rank_of h.state ∷ h.size ∷ location_numbers h.location

-- ---- a header with the state that its object is to go to: 0 Free, 1 Allocated, 2 Finalized, 3 Deleted

unfoldable pub object_state_of : ℕ → Answer ObjectState
object_state_of n =
    pick (eqb n 0) (done state.Free)
    (pick (eqb n 1) (done state.Allocated)
    (pick (eqb n 2) (done state.Finalized)
    (pick (eqb n 3) (done state.Deleted) (refused 4))))

unfoldable pub target_of : List ℕ → ℕ → Answer Target
target_of ns n = and_then (header_of ns) (λ h. and_then (object_state_of n) (λ to. done (record { header = h; state = to })))

-- ---- whether an object is there: 1 and its header, or 0

-- an answer whose refusal is a number, which may be any
abbrev pub info_said : Result (Option ObjectHeader) ℕ → Answer Info
info_said (Ok (Some h)) = done (found h)
info_said (Ok None) = done none
info_said (Err n) = refused n

abbrev pub info_out : Info → Two ℕ (List ℕ) → Two ℕ (List ℕ)
info_out (found h) old = two 1 (header_numbers h)
info_out none old = two 0 old.second

-- ---- what stands at an iterator: 1 with the header and the iterator behind it, 0 where the place is free, 2 at the end

-- an answer whose refusal is a number, which may be any
abbrev pub next_said : Result Next ℕ → Answer Met
next_said (Ok (next.Object h i)) = done (object h i)
next_said (Ok next.Free) = done free_place
next_said (Ok next.End) = done block_end
next_said (Err n) = refused n

abbrev pub next_out : Met → Two (List ℕ) (Two ℕ (List ℕ)) → Two (List ℕ) (Two ℕ (List ℕ))
next_out (object h i) old = two (iterator_numbers i) (two 1 (header_numbers h))
next_out free_place old = two old.first (two 0 old.second.second)
next_out block_end old = two old.first (two 2 old.second.second)

-- ---- readers: header, cursor

unfoldable pub reader_of : List ℕ → Answer ObjectReader
reader_of ns =
    and_then (header_of ns) (λ h.
    and_then (or_refuse (possible (get_or ns 5 0))) (λ _.
    done (record { object = h; cursor = get_or ns 5 0 })))

abbrev pub reader_numbers : ObjectReader → List ℕ
reader_numbers r = header_numbers r.object ++ (r.cursor ∷ [])

-- ---- metadata headers: header, path hash, name block, name offset, cursor

unfoldable pub metadata_of : List ℕ → Answer MetadataObjectHeader
metadata_of ns =
    and_then (header_of ns) (λ h.
    and_then (or_refuse (possible (get_or ns 8 0))) (λ _.
    done (record { object = h; hash = get_or ns 5 0; name = located (get_or ns 6 0) (get_or ns 7 0); cursor = get_or ns 8 0 })))

abbrev pub metadata_numbers : MetadataObjectHeader → List ℕ
metadata_numbers m = header_numbers m.object ++ (m.hash ∷ m.name.block ∷ m.name.offset ∷ m.cursor ∷ [])
