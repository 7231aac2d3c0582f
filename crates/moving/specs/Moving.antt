-- Copying: the header is read again and must be a finished object's; 16 bytes a turn, read from the image as it is by then. Moving is copying
-- and then deleting the original.
use Rattle.std.specs.Prelude.{ℕ, zero, suc, ◌+◌, ◌-◌, ◌/◌, min, List, false}
use Rattle.medium.specs.declared.geometry.Geometry.{Geometry}
use Rattle.medium.specs.Operation.{Answer, done, refused, and_then, Op, ◌>>=◌, ◌>>◌, ask, give}
use Rattle.medium.specs.Medium.{read_at}
use Rattle.objects.specs.declared.state.ObjectDataState.TheVariants.{Deleted}
use Rattle.objects.specs.declared.state.CompositeObjectState.{CompositeObjectState}
use Rattle.objects.specs.declared.state.CompositeObjectState.TheVariants as comp
use Rattle.objects.specs.declared.location.ObjectLocation.{ObjectLocation}
use Rattle.objects.specs.declared.header.ObjectHeader.{ObjectHeader}
use Rattle.objects.specs.Header.{payload_of, set_state}
use Rattle.objects.specs.Payload.{payload_at}
use Rattle.objects.specs.Reader.{reader_at}
use Rattle.writer.specs.declared.writer.ObjectWriter.{ObjectWriter}
use Rattle.moving.specs.declared.source.Source.{Source}
use Rattle.writer.specs.Writer.{allocate, write_some, finalize}

-- the type is the handed-in header's: 4 where that is Free
abbrev pub source_in : CompositeObjectState → ℕ → Answer Source
source_in comp.Free n = refused 4
source_in (comp.Allocated t d) n = done (record { kind = t; size = n })

-- what is to be copied: the payload size is the one read just now
unfoldable pub source_at : Geometry → ObjectHeader → List ℕ → Answer Source
source_at g h img = and_then (reader_at g h.location false img) (λ r. source_in h.state (payload_of g.s r.object))

-- one turn
unfoldable pub chunk : Geometry → ℕ → ℕ → ℕ → ObjectWriter → Op ObjectWriter
chunk g b at n w = do
  bs ← ask (read_at g b at n)
  write_some g w bs

abbrev pub turns_of : ℕ → ℕ
turns_of n = (n + 15) / 16

unfoldable pub copying : ℕ → Geometry → ℕ → ℕ → ℕ → ObjectWriter → Op ObjectWriter
copying zero g b at n w = give w
copying (suc k) g b at n w = do
  w₁ ← chunk g b at (min 16 n) w
  copying k g b (at + 16) (n - 16) w₁

unfoldable pub copy_object : Geometry → ObjectHeader → ObjectLocation → Op ObjectHeader
copy_object g h to = do
  src ← ask (source_at g h)
  w ← allocate g to src.kind
  w₁ ← copying (turns_of src.size) g h.location.block (payload_at g h) src.size w
  w₂ ← finalize g w₁
  give w₂.object

unfoldable pub move_object : Geometry → ObjectHeader → ObjectLocation → Op ObjectHeader
move_object g h to = do
  new ← copy_object g h to
  set_state g h Deleted
  give new
