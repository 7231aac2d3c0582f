-- The rows of specs/Blocks.antt, computed.
use Rattle.std.specs.Prelude.{true, ◌≡◌, refl, ◌++◌}
use Rattle.medium.specs.Geometry.{geometry_ok, admit}
use Rattle.medium.specs.Operation.{◌>>=◌, ask, test, putting, run}
use Rattle.medium.specs.Strict.{not_erased}
use Rattle.medium.specs.Medium.{readable, writable, storable, erasable, read_at, write, erase}
use Rattle.medium.specs.Bench.{all}
use Rattle.objects.specs.Types.{type_of, mark_of, pair_of, marks_of, state_in}
use Rattle.objects.specs.Header.{state_at, sized_at, header_at, payload_of}
use Rattle.objects.specs.Info.{info_at, total_of}
use Rattle.objects.specs.Listing.{next_of, list_from, listing}
use Rattle.blocks.specs.BlockHeader.{header_bytes, write_header, padded, marked, blank, kind_of_type, named_kind, kind_in, block_header_at}
use Rattle.blocks.specs.Format.{data_empty_at, again, plan_known, plan_of, plan_at, labelling, renewing, format_block, format_from, format_storage}
use Rattle.blocks.specs.Scan.{scan_unknown, scan_block, calculate_freeable_space}
use Rattle.rows.specs.Blocks.{fresh, others, scans}

pub rows : all (fresh ++ others ++ scans) ≡ true
unfolding geometry_ok admit ◌>>=◌ ask test putting run readable writable storable not_erased erasable read_at write erase type_of mark_of pair_of marks_of state_in state_at sized_at header_at payload_of info_at total_of next_of list_from listing header_bytes write_header padded marked blank kind_of_type named_kind kind_in block_header_at data_empty_at again plan_known plan_of plan_at labelling renewing format_block format_from format_storage scan_unknown scan_block calculate_freeable_space
rows = refl
