-- "The writer stores type, then payload, then size, then mark." "A payload of L bytes takes 2+L+s units, under Word(4) 3 plus L/4 rounded up."
use Rattle.std.specs.Prelude.{◌≡◌, List, [], ◌∷◌, ◌++◌, ℕ, ◌+◌, length}
use Rattle.medium.specs.declared.granularity.Granularity.{Granularity}
use Rattle.medium.specs.declared.granularity.Granularity.TheVariants.{Bit, Word1, Word4}
use Rattle.medium.specs.declared.geometry.Geometry.{Geometry}
use Rattle.medium.specs.Granularity.{units_in, header, size_at, finish_at, finish_mark}
use Rattle.medium.specs.Units.{FlashUnit}
use Rattle.medium.specs.Medium.{units_at}
use Rattle.objects.specs.declared.types.ObjectType.{ObjectType}
use Rattle.objects.specs.declared.location.ObjectLocation.{ObjectLocation}
use Rattle.objects.specs.Numbers.{bytes}
use Rattle.objects.specs.Types.{type_byte}
use Rattle.writer.specs.Writer.{write_to}

-- "type, then payload, then size, then mark"
abbrev pub object_units : Geometry → ObjectLocation → ObjectType → List ℕ → List FlashUnit
object_units g at t src =
    units_at g at.block at.offset (type_byte t ∷ [])
    ++ units_at g at.block (at.offset + header g.granularity g.s) src
    ++ units_at g at.block (at.offset + size_at g.granularity) (bytes g.s (length src))
    ++ units_at g at.block (at.offset + finish_at g.granularity) (finish_mark g.granularity ∷ [])

-- "2+L+s units, under Word(4) 3 plus L/4 rounded up"
abbrev pub unit_count : Granularity → ℕ → ℕ → ℕ
unit_count Bit s n = 2 + n + s
unit_count Word1 s n = 2 + n + s
unit_count Word4 s n = 3 + units_in 4 n

-- what an object that was written whole has stored, and the total size that is given back
pub record Written (g : Geometry) (at : ObjectLocation) (t : ObjectType) (src img : List ℕ) (n : ℕ) : Type 0 where
  pub stores : (write_to g at t src img).events ≡ object_units g at t src
  pub takes : length (write_to g at t src img).events ≡ unit_count g.granularity g.s (length src)
  pub total : n ≡ header g.granularity g.s + length src
