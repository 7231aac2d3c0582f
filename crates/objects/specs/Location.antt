-- "Locations are c bytes of block, s bytes of offset; larger numbers lose their high bytes, as in the Rust."
use Rattle.std.specs.Prelude.{ℕ, ◌+◌, List, ◌++◌, length, take, drop, eqb}
use Rattle.medium.specs.declared.geometry.Geometry.{Geometry}
use Rattle.medium.specs.Granularity.{pick}
use Rattle.medium.specs.Geometry.{fit_of}
use Rattle.medium.specs.Operation.{Answer, done, refused, and_then, or_refuse}
use Rattle.objects.specs.declared.location.ObjectLocation.{ObjectLocation}
use Rattle.objects.specs.Numbers.{number, bytes}

-- how long a location is
abbrev pub location_length : Geometry → ℕ
location_length g = g.c + g.s

abbrev pub location_bytes : Geometry → ObjectLocation → List ℕ
location_bytes g l = bytes g.c l.block ++ bytes g.s l.offset

-- into a lent buffer of n bytes
unfoldable pub into_bytes : Geometry → ObjectLocation → ℕ → Answer (List ℕ)
into_bytes g l n = and_then (or_refuse (fit_of g)) (λ _. pick (eqb n (location_length g)) (done (location_bytes g l)) (refused 7))

abbrev pub location_in : Geometry → List ℕ → ObjectLocation
location_in g bs = record { block = number (take g.c bs); offset = number (drop g.c bs) }

unfoldable pub from_bytes : Geometry → List ℕ → Answer ObjectLocation
from_bytes g bs = and_then (or_refuse (fit_of g)) (λ _. pick (eqb (length bs) (location_length g)) (done (location_in g bs)) (refused 9))
