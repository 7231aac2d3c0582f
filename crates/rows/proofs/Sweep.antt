-- The rows of specs/Sweep.antt, computed.
use Rattle.std.specs.Prelude.{true, ◌≡◌, refl, ◌++◌}
use Rattle.medium.specs.Geometry.{geometry_ok, admit}
use Rattle.medium.specs.Operation.{◌>>=◌, ask, test, putting, run}
use Rattle.medium.specs.Strict.{not_erased}
use Rattle.medium.specs.Medium.{readable, writable, storable, read_at, write}
use Rattle.medium.specs.Beside.{on_image}
use Rattle.medium.specs.Bench.{all}
use Rattle.objects.specs.Types.{type_of, mark_of, pair_of, marks_of, state_in}
use Rattle.objects.specs.Header.{state_at, sized_at, header_at, payload_size_of, payload_of, marking, set_state, update_state}
use Rattle.objects.specs.Info.{info_at, total_of}
use Rattle.objects.specs.Payload.{payload_readable, read_payload, equal, same_payload}
use Rattle.objects.specs.Reader.{reader_at}
use Rattle.objects.specs.Metadata.{number_at, location_at, read_metadata, listable, next_location}
use Rattle.objects.specs.Listing.{next_of, list_from}
use Rattle.blocks.specs.BlockHeader.{padded, marked, blank, kind_of_type, named_kind, kind_in, block_header_at}
use Rattle.storage.specs.Order.{open_tour, is_of, open_of, blocks_tour, tour_from}
use Rattle.storage.specs.Lookup.{same_from, is_name, is_named, lookup}
use Rattle.storage.specs.File.{places_from}
use Rattle.sweep.specs.Referring.{locations_of, is_whole, is_listed, is_sound, listings, sweepable}
use Rattle.sweep.specs.Twins.{is_twin, twins, is_referred, unreferred}
use Rattle.sweep.specs.Sweep.{deleting, deleting_twins, deleting_unreferred, sweep, sweep_with}
use Rattle.rows.specs.Sweep.{firsts, apart, loose, cuts, danglings, listed, one_name, lent}

pub rows : all (firsts ++ apart ++ loose ++ cuts ++ danglings ++ listed ++ one_name ++ lent) ≡ true
unfolding geometry_ok admit ◌>>=◌ ask test putting run readable writable storable not_erased read_at write on_image type_of mark_of pair_of marks_of state_in state_at sized_at header_at payload_size_of payload_of marking set_state update_state info_at total_of payload_readable read_payload equal same_payload reader_at number_at location_at read_metadata listable next_location next_of list_from padded marked blank kind_of_type named_kind kind_in block_header_at open_tour is_of open_of blocks_tour tour_from same_from is_name is_named lookup places_from locations_of is_whole is_listed is_sound listings sweepable is_twin twins is_referred unreferred deleting deleting_twins deleting_unreferred sweep sweep_with
rows = refl
