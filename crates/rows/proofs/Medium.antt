-- The rows of specs/Medium.antt, computed.
use Rattle.std.specs.Prelude.{true, ◌≡◌, refl}
use Rattle.medium.specs.Geometry.{geometry_ok, admit, fit_of}
use Rattle.medium.specs.Operation.{ask, putting, run}
use Rattle.medium.specs.Strict.{not_erased}
use Rattle.medium.specs.Medium.{readable, writable, storable, erasable, aligned_of, read_at, write, erase}
use Rattle.medium.specs.Bench.{all}
use Rattle.rows.specs.Medium.{table}

pub rows : all table ≡ true
unfolding geometry_ok admit fit_of ask putting run readable writable storable not_erased erasable aligned_of read_at write erase
rows = refl
