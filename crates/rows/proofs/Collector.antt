-- The rows of specs/Collector.antt, computed.
use Rattle.std.specs.Prelude.{true, ◌≡◌, refl, ◌++◌}
use Rattle.medium.specs.Geometry.{geometry_ok, admit}
use Rattle.medium.specs.Operation.{◌>>=◌, ask, test, putting, run}
use Rattle.medium.specs.Strict.{not_erased}
use Rattle.medium.specs.Medium.{readable, writable, storable, erasable, read_at, write, erase}
use Rattle.medium.specs.Beside.{on_image}
use Rattle.medium.specs.Bench.{all}
use Rattle.objects.specs.Types.{type_of, mark_of, pair_of, marks_of, state_in}
use Rattle.objects.specs.Header.{state_at, sized_at, header_at, payload_size_of, payload_of, marking, set_state, staying, update_state, sizable_of, set_payload_size}
use Rattle.objects.specs.Info.{info_at, total_of}
use Rattle.objects.specs.Listing.{next_of, list_from, listing}
use Rattle.blocks.specs.BlockHeader.{header_bytes, write_header, padded, marked, blank, kind_of_type, named_kind, kind_in, block_header_at}
use Rattle.blocks.specs.Format.{data_empty_at, again, plan_known, plan_of, plan_at, labelling, format_block}
use Rattle.blocks.specs.Format as format
use Rattle.blocks.specs.Record.{kind_of, info_of}
use Rattle.blocks.specs.Scan.{scan_unknown, scan_block}
use Rattle.collector.specs.Table.{record_at, storing, allowing, possible_from, collectable}
use Rattle.collector.specs.Passes.{repair_by, repairing, repaired, visit_one, deleting, delete_invalid_objects_in_block, worn_out, formatting, renewing, erasing, erase_invalid_finished_block, erase_full_finished_block, block_step, sweep, pass, collect}
use Rattle.rows.specs.Collector.{thirteen, impossible, last, raised, broken, cuts, rest, listed_first, full, swallowed, overrun}

pub rows : all (thirteen ++ impossible ++ last ++ raised ++ broken ++ cuts ++ rest ++ listed_first ++ full ++ swallowed ++ overrun) ≡ true
unfolding geometry_ok admit ◌>>=◌ ask test putting run readable writable storable not_erased erasable read_at write erase type_of mark_of pair_of marks_of state_in state_at sized_at header_at payload_size_of payload_of marking set_state staying update_state sizable_of set_payload_size info_at total_of next_of list_from listing header_bytes write_header padded marked blank kind_of_type named_kind kind_in block_header_at data_empty_at again plan_known plan_of plan_at labelling format.renewing format_block kind_of info_of scan_unknown scan_block on_image record_at storing allowing possible_from collectable repair_by repairing repaired visit_one deleting delete_invalid_objects_in_block worn_out formatting renewing erasing erase_invalid_finished_block erase_full_finished_block block_step sweep pass collect
rows = refl
