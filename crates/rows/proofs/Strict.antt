-- The rows of specs/Strict.antt, computed.
use Rattle.std.specs.Prelude.{true, ◌≡◌, refl, ◌++◌}
use Rattle.medium.specs.Geometry.{geometry_ok, admit}
use Rattle.medium.specs.Operation.{◌>>=◌, ask, test, putting, run}
use Rattle.medium.specs.Strict.{not_erased}
use Rattle.medium.specs.Medium.{readable, writable, storable, erasable, read_at, write, erase}
use Rattle.medium.specs.Beside.{on_image}
use Rattle.medium.specs.Bench.{all}
use Rattle.objects.specs.Types.{type_of, object_type_of, mark_of, pair_of, marks_of, state_in}
use Rattle.objects.specs.Header.{state_at, sized_at, header_at, payload_size_of, payload_of, allocatable_of, marking, set_state, staying, update_state, sizable_of, set_payload_size}
use Rattle.objects.specs.Info.{info_at, total_of}
use Rattle.objects.specs.Reader.{reader_at, remaining_of, left_of, read_some}
use Rattle.objects.specs.Listing.{next_of, list_from, listing}
use Rattle.blocks.specs.BlockHeader.{header_bytes, write_header, padded, marked, blank, kind_of_type, named_kind, kind_in, block_header_at}
use Rattle.blocks.specs.Format.{data_empty_at, again, plan_known, plan_of, plan_at, labelling, renewing, format_block, set_block_type}
use Rattle.blocks.specs.Record.{kind_of, info_of}
use Rattle.writer.specs.Writer.{sound_of, allocate, may_write, put_bytes, write_some, may_finish, flush, close, finalize, delete, write_to}
use Rattle.moving.specs.Moving.{source_at, chunk, copying, copy_object, move_object}
use Rattle.collector.specs.Table.{record_at, storing, allowing, possible_from, collectable}
use Rattle.collector.specs.Passes.{repair_by, repairing, repaired, visit_one, deleting, delete_invalid_objects_in_block, block_step, sweep, pass}
use Rattle.batch.specs.Batch.{records_in, batchable, lent_to, write_record, writing, write_all}
use Rattle.storage.specs.Order.{open_tour, is_of, open_of, blocks_tour, tour_from}
use Rattle.sweep.specs.Referring.{listings, sweepable}
use Rattle.sweep.specs.Twins as plan
use Rattle.sweep.specs.Sweep as twins
use Rattle.rows.specs.Strict.{stores, types, objects, tails, moves, others}

pub rows : all (stores ++ types ++ objects ++ tails ++ moves ++ others) ≡ true
unfolding geometry_ok admit ◌>>=◌ ask test putting run readable writable storable not_erased erasable read_at write erase on_image type_of object_type_of mark_of pair_of marks_of state_in state_at sized_at header_at payload_size_of payload_of allocatable_of marking set_state staying update_state sizable_of set_payload_size info_at total_of reader_at remaining_of left_of read_some next_of list_from listing header_bytes write_header padded marked blank kind_of_type named_kind kind_in block_header_at data_empty_at again plan_known plan_of plan_at labelling renewing format_block set_block_type kind_of info_of sound_of allocate may_write put_bytes write_some may_finish flush close finalize delete write_to source_at chunk copying copy_object move_object record_at storing allowing possible_from collectable repair_by repairing repaired visit_one deleting delete_invalid_objects_in_block block_step sweep pass records_in batchable lent_to write_record writing write_all open_tour is_of open_of blocks_tour tour_from listings sweepable twins.deleting twins.deleting_twins twins.deleting_unreferred twins.sweep plan.is_twin plan.twins plan.is_referred plan.unreferred
rows = refl
