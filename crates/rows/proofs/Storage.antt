-- The rows of specs/Storage.antt, computed.
use Rattle.std.specs.Prelude.{true, ◌≡◌, refl, ◌++◌}
use Rattle.medium.specs.Geometry.{geometry_ok, admit}
use Rattle.medium.specs.Medium.{readable, read_at}
use Rattle.medium.specs.Bench.{all}
use Rattle.objects.specs.Types.{type_of, mark_of, pair_of, marks_of, state_in}
use Rattle.objects.specs.Header.{state_at, sized_at, header_at, payload_size_of, payload_of}
use Rattle.objects.specs.Info.{info_at, total_of}
use Rattle.objects.specs.Payload.{read_payload, equal}
use Rattle.objects.specs.Reader.{reader_at}
use Rattle.objects.specs.Metadata.{number_at, location_at, read_metadata, metadata_at, listable, next_location}
use Rattle.objects.specs.Listing.{next_of, list_from}
use Rattle.blocks.specs.BlockHeader.{padded, marked, blank, kind_of_type, named_kind, kind_in, block_header_at}
use Rattle.storage.specs.Order.{open_tour, is_of, open_of, blocks_tour, tour_from, next_visit}
use Rattle.storage.specs.Lookup.{same_from, is_name, is_named, lookup}
use Rattle.storage.specs.File.{places_from, gather, read_file, sizes, file_size}
use Rattle.storage.specs.Names.{name_at, name_of, next_name}
use Rattle.rows.specs.Storage.{firsts, empties, looked, refusals, phantoms, joins, stops, names}

pub rows : all (firsts ++ empties ++ looked ++ refusals ++ phantoms ++ joins ++ stops ++ names) ≡ true
unfolding geometry_ok admit readable read_at type_of mark_of pair_of marks_of state_in state_at sized_at header_at payload_size_of payload_of info_at total_of read_payload equal reader_at number_at location_at read_metadata metadata_at listable next_location next_of list_from padded marked blank kind_of_type named_kind kind_in block_header_at open_tour is_of open_of blocks_tour tour_from next_visit same_from is_name is_named lookup places_from gather read_file sizes file_size name_at name_of next_name
rows = refl
