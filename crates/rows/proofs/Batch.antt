-- The rows of specs/Batch.antt, computed.
use Rattle.std.specs.Prelude.{true, ◌≡◌, refl, ◌++◌}
use Rattle.medium.specs.Geometry.{geometry_ok, admit}
use Rattle.medium.specs.Operation.{◌>>=◌, ask, test, putting, run}
use Rattle.medium.specs.Strict.{not_erased}
use Rattle.medium.specs.Medium.{readable, writable, storable, read_at, write}
use Rattle.medium.specs.Beside.{on_image}
use Rattle.medium.specs.Bench.{all}
use Rattle.objects.specs.Types.{type_of, object_type_of, mark_of, pair_of, marks_of, state_in}
use Rattle.objects.specs.Header.{state_at, allocatable_of, payload_of, payload_size_of, marking, set_state, sizable_of, set_payload_size}
use Rattle.objects.specs.Info.{total_of}
use Rattle.writer.specs.Writer.{sound_of, allocate, may_write, put_bytes, write_some, may_finish, flush, close, finalize, write_to}
use Rattle.batch.specs.Batch.{records_in, batchable, lent_to, write_record, writing, write_all}
use Rattle.rows.specs.Batch.{cuts, turns, readings, lists}

pub rows : all (cuts ++ turns ++ readings ++ lists) ≡ true
unfolding geometry_ok admit ◌>>=◌ ask test putting run readable writable storable not_erased read_at write on_image type_of object_type_of mark_of pair_of marks_of state_in state_at allocatable_of payload_of payload_size_of marking set_state sizable_of set_payload_size total_of sound_of allocate may_write put_bytes write_some may_finish flush close finalize write_to records_in batchable lent_to write_record writing write_all
rows = refl
