-- How a place of a block reads: as a finished object, whole; as nothing that is finished; or as a deleted object.
use Rattle.std.specs.Prelude.{◌≡◌, ◌⊎◌, false, List, ℕ, ◌+◌, ◌-◌, ◌≤◌, min, length}
use Rattle.medium.specs.declared.geometry.Geometry.{Geometry}
use Rattle.medium.specs.Operation.{done, refused}
use Rattle.medium.specs.Medium.{part}
use Rattle.objects.specs.declared.types.ObjectType.{ObjectType}
use Rattle.objects.specs.declared.state.ObjectDataState.TheVariants.{Untrusted, Valid, Deleted}
use Rattle.objects.specs.declared.state.CompositeObjectState.TheVariants.{Allocated}
use Rattle.objects.specs.declared.location.ObjectLocation.{ObjectLocation}
use Rattle.objects.specs.declared.header.ObjectHeader.{ObjectHeader}
use Rattle.objects.specs.declared.reader.ObjectReader.{ObjectReader}
use Rattle.objects.specs.Header.{header_at, payload_of}
use Rattle.objects.specs.Info.{found, none, info_at}
use Rattle.objects.specs.Reader.{reader_at, read_some}

abbrev pub reader_of : ObjectHeader → ℕ → ObjectReader
reader_of h cursor = record { object = h; cursor = cursor }

-- a finished object reads whole: its header, its size, a reader of it, and each read of its payload, from any cursor into a buffer of any length
pub record Whole (g : Geometry) (h : ObjectHeader) (t : ObjectType) (payload img : List ℕ) : Type 0 where
  pub finished : h.state ≡ Allocated t Valid
  pub header : header_at g h.location img ≡ done h
  pub info : info_at g h.location img ≡ done (found h)
  pub size : payload_of g.s h ≡ length payload
  pub reader : reader_at g h.location false img ≡ done (reader_of h 0)
  pub reads : (cursor n : ℕ) → cursor ≤ length payload
      → read_some g (reader_of h cursor) n img ≡ done (record { bytes = part cursor n payload; reader = reader_of h (cursor + min n (length payload - cursor)) })

-- a place reads as free, or as an object of this type that is not finished, and no reader of it is given
pub record Unfinished (g : Geometry) (at : ObjectLocation) (t : ObjectType) (img : List ℕ) : Type 0 where
  pub size : ℕ
  pub info : (info_at g at img ≡ done none) ⊎ (info_at g at img ≡ done (found (record { state = Allocated t Untrusted; size = size; location = at })))
  pub reader : reader_at g at false img ≡ refused 2

-- an object reads as deleted, and no reader of it is given
pub record Gone (g : Geometry) (h : ObjectHeader) (t : ObjectType) (img : List ℕ) : Type 0 where
  pub info : info_at g h.location img ≡ done (found (record { state = Allocated t Deleted; size = h.size; location = h.location }))
  pub reader : reader_at g h.location false img ≡ refused 2
