-- Every call that stores, of every layer, as one list: what it does to the image and to the table beside it. The sweep is not among them: it
-- refuses the mark before any store.
use Rattle.std.specs.Prelude.{List, ℕ}
use Rattle.medium.specs.declared.geometry.Geometry.{Geometry}
use Rattle.medium.specs.Operation.{OpIn, Op, ◌>>◌, give}
use Rattle.medium.specs.Beside.{beside, on_image}
use Rattle.medium.specs.Medium as medium
use Rattle.objects.specs.declared.types.ObjectType.{ObjectType}
use Rattle.objects.specs.declared.state.ObjectDataState.{ObjectDataState}
use Rattle.objects.specs.declared.state.ObjectState.{ObjectState}
use Rattle.objects.specs.declared.location.ObjectLocation.{ObjectLocation}
use Rattle.objects.specs.declared.header.ObjectHeader.{ObjectHeader}
use Rattle.objects.specs.Header as header
use Rattle.writer.specs.declared.writer.ObjectWriter.{ObjectWriter}
use Rattle.writer.specs.Writer as writer
use Rattle.moving.specs.Moving as moving
use Rattle.blocks.specs.declared.header.BlockType.{BlockType}
use Rattle.blocks.specs.declared.header.BlockHeader.{BlockHeader}
use Rattle.blocks.specs.BlockHeader as block
use Rattle.blocks.specs.Format as format
use Rattle.collector.specs.Passes as collector
use Rattle.batch.specs.Batch as batch

pub data Call : Type 0 where
  -- medium: block, offset, bytes
  write : ℕ → ℕ → List ℕ → Call
  erase : ℕ → Call
  -- objects
  set_state : ObjectHeader → ObjectDataState → Call
  update_state : ObjectHeader → ObjectState → Call
  set_payload_size : ObjectHeader → ℕ → Call
  -- writer
  allocate : ObjectLocation → ObjectType → Call
  write_payload : ObjectWriter → List ℕ → Call
  finalize : ObjectWriter → Call
  delete : ObjectWriter → Call
  write_to : ObjectLocation → ObjectType → List ℕ → Call
  -- copy and move
  copy_object : ObjectHeader → ObjectLocation → Call
  move_object : ObjectHeader → ObjectLocation → Call
  -- blocks
  write_header : ℕ → BlockHeader → Call
  format_block : ℕ → Call
  format_storage : Call
  set_block_type : ℕ → BlockType → Call
  -- collector
  delete_invalid_objects : Call
  erase_invalid_finished_blocks : Call
  erase_full_finished_blocks : Call
  collect : Call
  -- batch: block, records, payload
  write_all : ℕ → List ℕ → List ℕ → Call

-- an operation on the image, whatever it gives
abbrev pub alone : {A : Type 0} → Op A → OpIn beside (Unit {0})
alone o = on_image (o >> give tt)

abbrev pub does : Geometry → Call → OpIn beside (Unit {0})
does g (write b o bs) = alone (medium.write g b o bs)
does g (erase b) = alone (medium.erase g b)
does g (set_state h to) = alone (header.set_state g h to)
does g (update_state h to) = alone (header.update_state g h to)
does g (set_payload_size h n) = alone (header.set_payload_size g h n)
does g (allocate at t) = alone (writer.allocate g at t)
does g (write_payload w src) = alone (writer.write_some g w src)
does g (finalize w) = alone (writer.finalize g w)
does g (delete w) = alone (writer.delete g w)
does g (write_to at t src) = alone (writer.write_to g at t src)
does g (copy_object h to) = alone (moving.copy_object g h to)
does g (move_object h to) = alone (moving.move_object g h to)
does g (write_header b h) = alone (block.write_header g b h)
does g (format_block b) = alone (format.format_block g b)
does g format_storage = alone (format.format_storage g)
does g (set_block_type b t) = alone (format.set_block_type g b t)
does g delete_invalid_objects = collector.delete_invalid_objects g
does g erase_invalid_finished_blocks = collector.erase_invalid_finished_blocks g
does g erase_full_finished_blocks = collector.erase_full_finished_blocks g
does g collect = collector.collect g
does g (write_all b records payload) = batch.write_all g b records payload

-- ---- "Never: erase, the formats, the second and third pass"

pub data Spared : Call → Type 0 where
  erases : (b : ℕ) → Spared (erase b)
  formats : (b : ℕ) → Spared (format_block b)
  formats_all : Spared format_storage
  second : Spared erase_invalid_finished_blocks
  third : Spared erase_full_finished_blocks
