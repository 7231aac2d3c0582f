-- The rows of specs/Rows.antt, computed.
use Rattle.std.specs.Prelude.{true, ◌≡◌, refl}
use Rattle.medium.specs.Geometry.{geometry_ok, admit, fit_of}
use Rattle.medium.specs.Operation.{◌>>=◌, ask, test, putting, run}
use Rattle.medium.specs.Strict.{not_erased}
use Rattle.medium.specs.Medium.{readable, writable, storable, erasable, read_at, write, erase}
use Rattle.medium.specs.Bench.{all}
use Rattle.objects.specs.Types.{type_of, mark_of, pair_of, marks_of, state_in}
use Rattle.objects.specs.Header.{state_at, sized_at, header_at, payload_size_of, payload_of, allocatable_of, marking, set_state, staying, update_state, sizable_of, set_payload_size}
use Rattle.objects.specs.Info.{info_at, total_of}
use Rattle.objects.specs.Reader.{reader_at, remaining_of, left_of, read_some}
use Rattle.objects.specs.Listing.{next_of, list_from, listing}
use Rattle.blocks.specs.BlockHeader as header
use Rattle.blocks.specs.BlockHeader.{header_bytes, write_header, padded, marked, kind_of_type, named_kind, block_header_at}
use Rattle.blocks.specs.Format.{data_empty_at, again, plan_known, plan_of, plan_at, labelling, renewing, format_block, set_block_type}
use Rattle.writer.specs.Writer.{sound_of, allocate, may_write, put_bytes, write_some, may_finish, flush, close, finalize, delete, write_to}
use Rattle.moving.specs.Moving.{source_at, chunk, copying, copy_object, move_object}
use Rattle.rows.specs.Rows.{table}

pub rows : all table ≡ true
unfolding geometry_ok admit fit_of ◌>>=◌ ask test putting run readable writable storable not_erased read_at write type_of mark_of pair_of marks_of state_in state_at sized_at header_at payload_size_of payload_of allocatable_of marking set_state staying update_state sizable_of set_payload_size info_at total_of reader_at remaining_of left_of read_some next_of list_from listing sound_of allocate may_write put_bytes write_some may_finish flush close finalize delete write_to source_at chunk copying copy_object move_object erasable erase header_bytes write_header padded marked header.blank kind_of_type named_kind header.kind_in block_header_at data_empty_at again plan_known plan_of plan_at labelling renewing format_block set_block_type
rows = refl
